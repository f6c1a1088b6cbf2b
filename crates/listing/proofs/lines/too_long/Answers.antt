use mathlib.Core.Path.{ap}
use native.Mathlib.Omega.{arith}
use lib.ListN.{length}
use Rattle.outcomes.specs.Text.{text}
use Rattle.outcomes.proofs.Writing.{stored-as}
use Rattle.listing.proofs.LineParts.{too-long-line}
use Rattle.listing.proofs.lines.too_long.Goals as goal

pub returns : goal.returns
unfolding text
returns c = record { stored = stored-as too-long-line c.put_all.ensures; within = omega (arith, ap length too-long-line) }
