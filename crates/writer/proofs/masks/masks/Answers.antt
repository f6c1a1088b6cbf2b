use native.Mathlib.Omega.{arith}
use Rattle.card.specs.Layout.{layout_masks}
use Rattle.outcomes.proofs.Writing.{stored-nothing, stored-both, stored-as}
use Rattle.writer.proofs.Laying.{masks-next}
use Rattle.writer.proofs.masks.masks.Goals as goal

pub loop-value-init : goal.loop-value-init
unfolding layout_masks
loop-value-init c = stored-nothing c.args.cursor.now (omega arith)

pub loop-value-preserved : goal.loop-value-preserved
loop-value-preserved c = stored-as (masks-next c.args.masks.now _ (omega arith)) (stored-both c.loop-value.invariant c.mask.ensures)
