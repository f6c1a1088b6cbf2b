use Prim.Native.Nat.{ℕ}
use mathlib.Core.Path.{refl, ap, ap₂, ◌∙◌}
use native.Mathlib.Omega.{arith}
use lib.Bits.{bit_xor}
use Rattle.bits.specs.Sums.{up_to}
use Rattle.bits.specs.Digits.{shift_up}
use Rattle.bits.proofs.Lists.{part_step, part-next, part-all}
use Rattle.code.specs.Registers.{with_digits}
use Rattle.code.proofs.put_digits.Goals as goal

pub loop-s-init : goal.loop-s-init
unfolding up_to
loop-s-init c = refl

pub loop-s-preserved : goal.loop-s-preserved
loop-s-preserved c =
    let l = c.loop-s in
    part_step _ _ _ _ _ (omega arith) l.invariant (ap₂ bit_xor (part-next _ _ _ l.invariant) (c.shift_up.ensures ∙ ap (λ (d : ℕ). shift_up d c.args.place) c.digit.ensures))

pub returns : goal.returns
unfolding with_digits
returns c = part-all _ _ c.loop-s.invariant (omega arith) (omega arith)
