-- The loop's sum has, in its ones, the parity of the streams that it passed.
use Prim.Native.Nat.{◌%◌}
use mathlib.Core.Path.{◌≡◌}
use lib.ListN.{get_or}
use lib.Count.{ones}
use Rattle.bits.specs.Sums.{sum_below}
use Rattle.bits.specs.Digits.{dot}
use Rattle.code.specs.Registers.{generator_mask}
use Rattle.code.proofs.parity.Given as goal

abbrev pub invariant-loop-i : goal.invariant-loop-i
invariant-loop-i l = ones l.sum % 2 ≡ sum_below l.i (λ b. dot (generator_mask l.generators b l.j) (get_or l.registers b 0)) % 2
