use Prim.Native.Nat.{ℕ, ◌*◌}
use native.Mathlib.Nat.{le_antisymm}
use mathlib.Core.Path.{◌≡◌, ap, ◌∙◌}
use native.Mathlib.Omega.{arith}
use Rattle.bits.specs.Sums.{up_to}
use Rattle.code.specs.declared.Sizes.{Sizes}
use Rattle.card.specs.Layout.{layout_masks, all_rows}
use Rattle.card.specs.Written.{k_of, p_of, rows_of, fields_of}
use Rattle.outcomes.proofs.Writing.{stored-still, stored-both, stored-as}
use Rattle.writer.proofs.Laying.{part-is, rows_next, rows-parts}
use Rattle.writer.proofs.parts.generators.Goals as goal

pub loop-i-init : goal.loop-i-init
unfolding up_to rows_of all_rows layout_masks
loop-i-init c = stored-still c.put_all.ensures

pub loop-i-preserved : goal.loop-i-preserved
loop-i-preserved c =
    let card = c.args.card.now in
    let l = c.loop-i in
    let p : c.sizes-k.result.p ≡ p_of card = ap (λ (s : Sizes). s.p) c.sizes-k.ensures in
    let k : c.sizes-k.result.k ≡ k_of card = ap (λ (s : Sizes). s.k) c.sizes-k.ensures in
    stored-as (rows_next card.generators (p_of card) l.i)
    (stored-both l.invariant (stored-as (ap layout_masks (part-is card.generators (l.i * 8) p (omega arith))) c.masks.ensures))

pub returns : goal.returns
unfolding fields_of
returns c =
    let card = c.args.card.now in
    let all = le_antisymm c.loop-i.auto.i-end c.loop-i-test.false ∙ ap (λ (s : Sizes). s.k) c.sizes-k.ensures in
    stored-as
    (rows-parts (rows_of card.generators (k_of card) (p_of card)) (omega arith) c.generator_map.ensures)
    (stored-both (stored-as c.to_le_bytes.ensures c.put_all.ensures)
    (stored-as (ap (λ (n : ℕ). layout_masks (all_rows (rows_of card.generators n (p_of card)))) all) c.loop-i.invariant))
