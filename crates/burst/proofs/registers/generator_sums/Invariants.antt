use Prim.Native.Nat.{◌^◌}
use mathlib.Core.Path.{◌≡◌}
use lib.ListN.{length}
use Rattle.burst.specs.Sums.{HasSums}
use Rattle.burst.proofs.registers.generator_sums.Given as goal

abbrev pub invariant-loop-j : goal.invariant-loop-j
invariant-loop-j l = (length l.sums ≡ 8) × HasSums l.generators l.k l.j (2 ^ l.k) l.sums
