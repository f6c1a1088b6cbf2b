use lib.ListN.{length}
use borrow.Author.Tests.{lt-leb, le-leb}
use native.Mathlib.Omega.{arith}
use Rattle.outcomes.specs.Listing.{stated_length}
use Rattle.outcomes.proofs.stated_length.Goals as goal

pub returns-in_default : goal.returns-in_default
unfolding stated_length
returns-in_default c = rw (lt-leb 2 (length c.args.input.now) (omega arith))

pub returns : goal.returns
unfolding stated_length
returns c = rw (le-leb 2 (length c.args.input.now) (omega arith), c.from.ensures, c.from-2.ensures)
