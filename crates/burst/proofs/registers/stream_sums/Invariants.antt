use mathlib.Core.Path.{◌≡◌}
use lib.ListN.{length}
use Rattle.burst.specs.Sums.{HasStreamSums}
use Rattle.burst.proofs.registers.stream_sums.Given as goal

abbrev pub invariant-loop-x : goal.invariant-loop-x
invariant-loop-x l = (length l.sums ≡ 16) × HasStreamSums l.generators l.k l.j l.x l.sums
