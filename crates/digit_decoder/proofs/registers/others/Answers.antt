use Prim.Native.Nat.{ℕ, ◌*◌}
use mathlib.Core.Path.{refl, ap, ◌∙◌}
use native.Mathlib.Omega.{arith}
use lib.ListN.{get_or, replicate}
use lib.Bits.{bit_xor}
use Rattle.bits.specs.Sums.{up_to}
use Rattle.bits.proofs.Lists.{part_step, part_end}
use Rattle.bits.proofs.Words.{mask-times-lt}
use Rattle.code.specs.Registers.{generator_mask}
use Rattle.digit_decoder.specs.Held.{others_by}
use Rattle.digit_decoder.proofs.registers.others.Goals as goal

pub loop-j-init : goal.loop-j-init
unfolding up_to
loop-j-init c = refl

pub overflow_mul-next : goal.overflow_mul-next
overflow_mul-next c = record { fits = mask-times-lt 32 c.generator.result c.args.own (omega arith) (omega arith) }

pub loop-j-preserved : goal.loop-j-preserved
loop-j-preserved c =
    let a = c.args in
    part_step _ (replicate 8 0) _ _ _ (omega arith) c.loop-j.invariant
    (ap (λ (m : ℕ). bit_xor (get_or a.sums.now c.loop-j.j 0) (m * a.own)) c.generator.ensures)

pub returns : goal.returns
unfolding others_by
returns c =
    let a = c.args in
    c.loop-j.invariant
    ∙ part_end (λ b. bit_xor (get_or a.sums.now b 0) (generator_mask a.generators.now a.i b * a.own)) (replicate 8 0) c.loop-j.auto.j-end c.loop-j-test.false
