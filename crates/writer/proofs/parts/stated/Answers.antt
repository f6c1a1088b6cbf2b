-- By the test.
use native.Mathlib.Omega.{arith}
use Rattle.card.specs.Written.{stated}
use Rattle.writer.proofs.parts.stated.Goals as goal

pub returns : goal.returns
unfolding stated
returns c = grind arith
