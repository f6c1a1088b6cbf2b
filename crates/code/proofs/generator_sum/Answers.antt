use Prim.Native.Nat.{ℕ, ◌*◌}
use mathlib.Core.Path.{refl, sym, ap, ap₂, ◌∙◌}
use native.Mathlib.Nat.{le_antisymm}
use native.Mathlib.Omega.{arith}
use lib.Bits.{bit_xor}
use Rattle.bits.specs.Sums.{xor_below}
use Rattle.bits.specs.Digits.{bit}
use Rattle.bits.proofs.Words.{xor-more, mask-times-lt}
use Rattle.code.specs.Registers.{generator_mask, generator_sum}
use Rattle.code.proofs.generator_sum.Goals as goal

pub loop-i-init : goal.loop-i-init
unfolding xor_below
loop-i-init c = refl

pub overflow_mul-sum : goal.overflow_mul-sum
unfolding bit
overflow_mul-sum c = record { fits = mask-times-lt 32 c.generator.result c.digit.result (omega arith) (omega arith) }

pub loop-i-preserved : goal.loop-i-preserved
loop-i-preserved c = ap₂ bit_xor c.loop-i.invariant (ap₂ ◌*◌ c.generator.ensures c.digit.ensures) ∙ sym (xor-more c.loop-i.i _)

pub returns : goal.returns
unfolding generator_sum
returns c =
    let a = c.args in
    c.loop-i.invariant
    ∙ ap (λ (n : ℕ). xor_below n (λ b. generator_mask a.generators.now b a.j * bit a.x b))
    (le_antisymm c.loop-i.auto.i-end c.loop-i-test.false)
