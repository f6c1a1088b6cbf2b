use Prim.Native.Nat.{ℕ}
use mathlib.Core.Path.{refl, sym, ap, ap₂, ◌∙◌}
use native.Mathlib.Nat.{le_antisymm}
use lib.ListN.{get_or}
use lib.Bits.{bit_xor}
use Rattle.bits.specs.Sums.{xor_below}
use Rattle.bits.proofs.Words.{xor-more}
use Rattle.code.specs.Registers.{generator_mask}
use Rattle.digit_decoder.specs.Held.{share_by, sum_by}
use Rattle.digit_decoder.proofs.registers.sum.Goals as goal

pub loop-s-init : goal.loop-s-init
unfolding xor_below
loop-s-init c = refl

pub loop-s-preserved : goal.loop-s-preserved
loop-s-preserved c =
    let l = c.loop-s in
    let a = c.args in
    ap₂ bit_xor l.invariant (cc (c.share-sum.ensures, c.generator.ensures))
    ∙ sym (xor-more l.s (λ b. share_by (generator_mask a.generators.now b a.j) (get_or a.received.now b 0) (get_or a.decided.now b 0)))

pub returns : goal.returns
unfolding sum_by
returns c =
    let a = c.args in
    let l = c.loop-s in
    ap₂ bit_xor c.word.ensures
    (l.invariant
    ∙ ap (λ (n : ℕ). xor_below n (λ b. share_by (generator_mask a.generators.now b a.j) (get_or a.received.now b 0) (get_or a.decided.now b 0)))
    (le_antisymm l.auto.s-end c.loop-s-test.false))
