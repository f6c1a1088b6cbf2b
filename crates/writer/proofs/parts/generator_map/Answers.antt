use Prim.Native.Nat.{ℕ, ◌+◌, ◌*◌, ◌%◌, ◌^◌, ◌≤◌}
use mathlib.Core.Path.{◌≡◌, refl, ap, ◌∙◌}
use native.Mathlib.Nat.{le_antisymm}
use native.Mathlib.Omega.{arith}
use Rattle.bits.specs.Sums.{up_to}
use Rattle.code.specs.declared.Sizes.{Sizes}
use Rattle.card.specs.Layout.{map_of, all_rows}
use Rattle.card.specs.Written.{k_of, p_of, rows_of, fields_of}
use Rattle.card.proofs.CardLength.{few-generators}
use Rattle.writer.proofs.Laying.{part-is, rows-map_next, rows-map_below, row_within}
use Rattle.writer.proofs.parts.generator_map.Goals as goal
use Rattle.writer.proofs.parts.generator_map.Goals.{After-map}

pub loop-i-init : goal.loop-i-init
unfolding up_to rows_of all_rows map_of
loop-i-init c = refl

-- where the map of row i is put
place : (c : After-map) → c.loop-i.i * p_of c.args.card.now + p_of c.args.card.now ≤ 16
place c =
    let card = c.args.card.now in
    let k : c.sizes-k.result.k ≡ k_of card = ap (λ (s : Sizes). s.k) c.sizes-k.ensures in
    row_within card.generators (p_of card) c.loop-i.i (k_of card) (omega arith) (omega arith) (omega arith)

-- one turn
turn : (c : After-map) → c.loop-i.map + c.map.result * 2 ^ (c.loop-i.i * c.sizes-k.result.p) % 4294967296
    ≡ map_of (all_rows (rows_of c.args.card.now.generators (c.loop-i.i + 1) (p_of c.args.card.now)))
turn c =
    let card = c.args.card.now in
    let l = c.loop-i in
    let p : c.sizes-k.result.p ≡ p_of card = ap (λ (s : Sizes). s.p) c.sizes-k.ensures in
    let k : c.sizes-k.result.k ≡ k_of card = ap (λ (s : Sizes). s.k) c.sizes-k.ensures in
    ap (λ (p : ℕ). l.map + c.map.result * 2 ^ (l.i * p) % 4294967296) p
    ∙ rows-map_next card.generators (p_of card) l.i (omega (arith, place c)) l.invariant
    (c.map.ensures.0 ∙ ap map_of (part-is card.generators (l.i * 8) p (omega arith)))

pub overflow_add-map : goal.overflow_add-map
overflow_add-map c =
    let card = c.args.card.now in
    let at = (goal.at.overflow_add-map c).After-map in
    record { fits = omega (arith, turn at, rows-map_below card.generators (p_of card) (c.loop-i.i + 1) 32 (omega (arith, place at))) }

pub loop-i-preserved : goal.loop-i-preserved
loop-i-preserved c = turn (goal.at.loop-i-preserved c).After-map

-- all rows have been passed
whole : (c : goal.After-loop-i) → c.loop-i.map ≡ map_of (all_rows (rows_of c.args.card.now.generators (k_of c.args.card.now) (p_of c.args.card.now)))
whole c =
    let card = c.args.card.now in
    let all = le_antisymm c.loop-i.auto.i-end c.loop-i-test.false ∙ ap (λ (s : Sizes). s.k) c.sizes-k.ensures in
    c.loop-i.invariant ∙ ap (λ (n : ℕ). map_of (all_rows (rows_of card.generators n (p_of card)))) all

pub overflow_cast-result : goal.overflow_cast-result
overflow_cast-result c =
    let card = c.args.card.now in
    record {
      fits = omega (
        arith,
        whole c,
        rows-map_below card.generators (p_of card) (k_of card) 16 (few-generators (k_of card) (p_of card) (omega arith) (omega arith)),
      );
    }

pub returns : goal.returns
unfolding fields_of
returns c = whole c
