-- The masks passed are laid out.
use lib.ListN.{take}
use Rattle.card.specs.Layout.{layout_masks}
use Rattle.outcomes.specs.Wrote.{Stored}
use Rattle.writer.proofs.masks.masks.Given as goal

abbrev pub invariant-loop-value : goal.invariant-loop-value
invariant-loop-value l = Stored l.initial.cursor l.cursor (layout_masks (take l.value-index l.masks))
