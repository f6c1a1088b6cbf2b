-- The map of the masks passed.
use lib.ListN.{take}
use mathlib.Core.Path.{◌≡◌}
use Rattle.card.specs.Layout.{map_of}
use Rattle.writer.proofs.masks.map.Given as goal

abbrev pub invariant-loop-j : goal.invariant-loop-j
invariant-loop-j l = l.map ≡ map_of (take l.j l.masks)
