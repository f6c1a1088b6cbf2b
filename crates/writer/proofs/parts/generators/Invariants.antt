-- After the map the generators of the streams passed.
use Rattle.card.specs.Layout.{layout_masks, all_rows}
use Rattle.card.specs.Written.{p_of, rows_of}
use Rattle.outcomes.specs.Wrote.{Stored}
use Rattle.writer.proofs.parts.generators.Given as goal

abbrev pub invariant-loop-i : goal.invariant-loop-i
invariant-loop-i l = Stored l.initial.cursor l.cursor (layout_masks (all_rows (rows_of l.card.generators l.i (p_of l.card))))
