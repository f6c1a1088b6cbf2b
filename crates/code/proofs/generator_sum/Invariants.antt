-- The loop has added up the generators of the streams that it passed.
use Prim.Native.Nat.{◌*◌}
use mathlib.Core.Path.{◌≡◌}
use Rattle.bits.specs.Sums.{xor_below}
use Rattle.bits.specs.Digits.{bit}
use Rattle.code.specs.Registers.{generator_mask}
use Rattle.code.proofs.generator_sum.Given as goal

abbrev pub invariant-loop-i : goal.invariant-loop-i
invariant-loop-i l = l.sum ≡ xor_below l.i (λ b. generator_mask l.generators b l.j * bit l.x b)
