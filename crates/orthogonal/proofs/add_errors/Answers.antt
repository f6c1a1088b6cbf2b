use mathlib.Core.Path.{refl, ap, ◌∙◌}
use native.Mathlib.Omega.{arith}
use lib.ListN.{get_or}
use lib.Bits.{bit_or}
use Rattle.bits.specs.Sums.{up_to}
use Rattle.bits.proofs.Lists.{part_step, part-next, part_end}
use Rattle.orthogonal.proofs.add_errors.Goals as goal

pub loop-s-init : goal.loop-s-init
unfolding up_to
loop-s-init c = refl

pub loop-s-preserved : goal.loop-s-preserved
loop-s-preserved c =
    let z = c.args.touched.now in
    let s = c.loop-s.s in
    let kept = c.loop-s.invariant in
    part_step _ z s _ _ (omega arith) kept (ap (λ x. bit_or x (get_or c.args.errors.now s 0)) (part-next _ z s kept))

pub returns : goal.returns
returns c = c.loop-s.invariant ∙ part_end _ _ (omega arith) (omega arith)
