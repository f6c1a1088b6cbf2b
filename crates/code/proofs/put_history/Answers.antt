use mathlib.Core.Path.{refl, ap₂, ◌∙◌}
use native.Mathlib.Omega.{arith}
use Rattle.bits.specs.Sums.{up_to}
use Rattle.bits.specs.Digits.{bit}
use Rattle.bits.proofs.Lists.{part_step, part-next, put-end}
use Rattle.code.specs.Registers.{shift_in, history_by}
use Rattle.code.proofs.put_history.Goals as goal

pub loop-i-init : goal.loop-i-init
unfolding up_to
loop-i-init c = refl

pub shifted_in-requires : goal.shifted_in-requires
unfolding bit
shifted_in-requires c = omega arith

pub loop-i-preserved : goal.loop-i-preserved
loop-i-preserved c =
    let l = c.loop-i in
    part_step _ _ _ _ _ (omega arith) l.invariant (c.shifted_in.ensures ∙ ap₂ shift_in (part-next _ _ _ l.invariant) c.digit.ensures)

pub returns : goal.returns
unfolding history_by
returns c = put-end c.args.k _ c.args.registers.now c.loop-i.invariant c.loop-i.auto.i-end c.loop-i-test.false c.min-i-end.ensures
