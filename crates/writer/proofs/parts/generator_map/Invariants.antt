-- The map of the generators of the streams passed.
use mathlib.Core.Path.{◌≡◌}
use Rattle.card.specs.Layout.{map_of, all_rows}
use Rattle.card.specs.Written.{p_of, rows_of}
use Rattle.writer.proofs.parts.generator_map.Given as goal

abbrev pub invariant-loop-i : goal.invariant-loop-i
invariant-loop-i l = l.map ≡ map_of (all_rows (rows_of l.card.generators l.i (p_of l.card)))
