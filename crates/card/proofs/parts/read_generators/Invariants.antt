-- The rest of the generators from where the loops stand gives the whole answer (`RestGenerators`).
use lib.ListN.{replicate}
use Rattle.card.specs.Fields.{store_rows}
use Rattle.card.specs.Reading.{read_mapped, read_generators}
use Rattle.card.proofs.RestGenerators.{AtRows, AtRow}
use Rattle.card.proofs.parts.read_generators.Given as goal

abbrev pub invariant-loop-j : goal.invariant-loop-j
invariant-loop-j l =
    AtRow l.bytes l.sizes (read_mapped (λ rows. store_rows 0 rows (replicate 32 0)) (read_generators l.bytes l.start l.sizes.k l.sizes.p l.sizes.m)) l.i l.generators l.rest l.at l.j

abbrev pub invariant-loop-i : goal.invariant-loop-i
invariant-loop-i l =
    AtRows l.bytes l.sizes (read_mapped (λ rows. store_rows 0 rows (replicate 32 0)) (read_generators l.bytes l.start l.sizes.k l.sizes.p l.sizes.m)) l.generators l.rest l.at l.i
