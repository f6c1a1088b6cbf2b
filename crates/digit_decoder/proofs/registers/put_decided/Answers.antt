use Prim.Native.Nat.{ℕ, ◌/◌}
use mathlib.Core.Path.{refl, ap, ap₂, ◌∙◌}
use native.Mathlib.Omega.{arith}
use lib.Bits.{bit_xor}
use Rattle.bits.specs.Sums.{up_to}
use Rattle.bits.specs.Digits.{shift_up}
use Rattle.bits.proofs.Lists.{part_step, part-next, part-all}
use Rattle.digit_decoder.specs.Held.{with_decided}
use Rattle.digit_decoder.proofs.registers.put_decided.Goals as goal

pub loop-i-init : goal.loop-i-init
unfolding up_to
loop-i-init c = refl

pub loop-i-preserved : goal.loop-i-preserved
loop-i-preserved c =
    let v = c.loop-i.invariant in
    part_step _ _ _ _ _ (omega arith) v
    (ap₂ bit_xor (ap (λ (x : ℕ). x / 2) (part-next _ _ _ v)) (c.shift_up.ensures ∙ ap (λ (d : ℕ). shift_up d 31) c.digit.ensures))

pub returns : goal.returns
unfolding with_decided
returns c = part-all _ _ c.loop-i.invariant (omega arith) (omega arith)
