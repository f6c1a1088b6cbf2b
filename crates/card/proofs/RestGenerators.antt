-- The rest of the generators from where the loops of `read_generators` stand: one law for each turn, fault and end, and what the loops keep.
use Prim.Native.Nat.{ℕ, ◌+◌, ◌-◌, ◌*◌, ◌/◌, ◌%◌, ◌^◌, ◌≤◌, ◌<◌, zero-le}
use mathlib.Core.Path.{◌≡◌, sym, ap, ap₂, ◌∙◌}
use mathlib.Core.List.{List, ◌∷◌}
use native.Mathlib.Nat.{sub-zero, add-zero, add_assoc, div-div-eq-div-mul, pow-succ'}
use native.Mathlib.Omega.{arith}
use lib.ListN.{length, set, replicate, length-set}
use Rattle.card.specs.Fields.{store, store_rows}
use Rattle.card.specs.Reading.{Read, next, read_mapped, standing_mask, map_field, read_masks, read_rows, read_generators}
use Rattle.card.specs.Reading.Field.{value, bad}
use Rattle.card.specs.Reading.Read.{got, fault}
use Rattle.card.specs.declared.parts.Sizes.{Sizes}
use Rattle.card.proofs.FieldValues.{map_is, standing-inside}
use Rattle.card.proofs.Rest.{next_is-map, next_map, next-next, next-same, one_less, none_left, masks-turn, masks-fault}

further : (i j : ℕ) → i * 8 + j + 1 ≡ i * 8 + (j + 1)
further i j = add_assoc (i * 8) j 1

halved : (map p j : ℕ) → j < p → map / 2 ^ (p - j) ≡ map / 2 / 2 ^ (p - (j + 1))
halved map p j h =
    ap (λ n. map / 2 ^ n) (one_less p j h) ∙ ap (λ n. map / n) (pow-succ' 2 (p - (j + 1))) ∙ sym (div-div-eq-div-mul map 2 (2 ^ (p - (j + 1))))

module _ (bs : List ℕ) (z : Sizes) where
  -- from row i on
  pub rest_rows : ℕ → List ℕ → ℕ → ℕ → Read (List ℕ)
  rest_rows i generators map at = next (read_rows bs z.m z.p (z.k - i) map at) (λ rows at₁. got (store_rows i rows generators) at₁)

  -- from mask j of row i on
  pub rest_row : ℕ → ℕ → List ℕ → ℕ → ℕ → Read (List ℕ)
  rest_row i j generators map at =
      next (read_masks bs z.m (z.p - j) map at) (λ vs at₁. rest_rows (i + 1) (store (i * 8 + j) vs generators) (map / 2 ^ (z.p - j)) at₁)

  rows_start : (start : ℕ) {map : ℕ} → map_field bs start (z.k * z.p) ≡ value map
      → rest_rows 0 (replicate 32 0) map (start + 2) ≡ read_mapped (λ rows. store_rows 0 rows (replicate 32 0)) (read_generators bs start z.k z.p z.m)
  unfolding rest_rows read_generators
  rows_start start {map} e = rw (sub-zero, e) (next_is-map (λ rows. store_rows 0 rows (replicate 32 0)) (read_rows bs z.m z.p z.k map (start + 2)))

  rows_end : (i : ℕ) (generators : List ℕ) (map at : ℕ) → z.k ≤ i → rest_rows i generators map at ≡ got generators at
  unfolding rest_rows read_rows store_rows
  rows_end i generators map at h = rw (none_left z.k i h)

  rows-turn : (i : ℕ) (generators : List ℕ) (map at : ℕ) → i < z.k → rest_rows i generators map at ≡ rest_row i 0 generators map at
  unfolding rest_rows rest_row read_rows store_rows
  rows-turn i generators map at h =
      rw (one_less z.k i h, sub-zero, add-zero)
      (next-next (λ vs at₁. read_mapped (λ rows. vs ∷ rows) (read_rows bs z.m z.p (z.k - (i + 1)) (map / 2 ^ z.p) at₁)) _ (read_masks bs z.m z.p map at)
      ∙ next-same (read_masks bs z.m z.p map at)
      (λ vs at₁. next_map (λ rows. vs ∷ rows) _ (read_rows bs z.m z.p (z.k - (i + 1)) (map / 2 ^ z.p) at₁)))

  row-fault : (i j : ℕ) (generators : List ℕ) (map at : ℕ) {n o : ℕ} → j < z.p → standing_mask bs at z.m (map % 2) ≡ bad n o
      → rest_row i j generators map at ≡ fault n o
  unfolding rest_row
  row-fault i j generators map at h e = masks-fault bs z.m z.p _ j map at h e

  row-end : (i j : ℕ) (generators : List ℕ) (map at : ℕ) → z.p ≤ j → rest_row i j generators map at ≡ rest_rows (i + 1) generators map at
  unfolding rest_row store read_masks
  row-end i j generators map at h =
      rw (none_left z.p j h) (let q : map / 2 ^ 0 ≡ map = omega arith in ap (λ x. rest_rows (i + 1) generators x at) q)

  row-turn : (i j : ℕ) (generators : List ℕ) (map at : ℕ) {v : ℕ} → j < z.p → standing_mask bs at z.m (map % 2) ≡ value v
      → rest_row i j generators map at ≡ rest_row i (j + 1) (set generators (i * 8 + j) v) (map / 2) (at + map % 2 * 4)
  unfolding rest_row store
  row-turn i j generators map at {v} h e =
      masks-turn bs z.m z.p (λ vs at₁. rest_rows (i + 1) (store (i * 8 + j) vs generators) (map / 2 ^ (z.p - j)) at₁) j map at h e
      ∙ next-same (read_masks bs z.m (z.p - (j + 1)) (map / 2) (at + map % 2 * 4))
      (λ vs at₁. ap₂ (λ a x. rest_rows (i + 1) (store a vs (set generators (i * 8 + j) v)) x at₁) (further i j) (halved map z.p j h))

-- ---- what the loops keep, before row i and before mask j of row i; r is the whole answer
pub record AtRows (bs : List ℕ) (z : Sizes) (r : Read (List ℕ)) (generators : List ℕ) (rest at i : ℕ) : Type 0 where
  pub row-most : i ≤ z.k
  pub inside : at ≤ length bs
  pub long : length generators ≡ 32
  pub same : rest_rows bs z i generators rest at ≡ r

pub record AtRow (bs : List ℕ) (z : Sizes) (r : Read (List ℕ)) (i : ℕ) (generators : List ℕ) (rest at j : ℕ) : Type 0 where
  pub mask-most : j ≤ z.p
  pub inside : at ≤ length bs
  pub long : length generators ≡ 32
  pub same : rest_row bs z i j generators rest at ≡ r

-- ---- the turns, faults and ends
pub rows-begin : (bs : List ℕ) (z : Sizes) (start : ℕ) {generators : List ℕ} {map : ℕ} → generators ≡ replicate 32 0 → map_field bs start (z.k * z.p) ≡ value map
    → AtRows bs z (read_mapped (λ rows. store_rows 0 rows (replicate 32 0)) (read_generators bs start z.k z.p z.m)) generators map (start + 2) 0
rows-begin bs z start {generators} {map} empty e =
    record {
      row-most = zero-le;
      inside = (map_is bs start (z.k * z.p) _ e).inside;
      long = ap length empty;
      same = ap (λ x. rest_rows bs z 0 x map (start + 2)) empty ∙ rows_start bs z start e;
    }

module _ {bs : List ℕ} {z : Sizes} {r : Read (List ℕ)} {generators : List ℕ} {rest at i : ℕ} where
  module _ (v : AtRows bs z r generators rest at i) where
    pub row-begin : i < z.k → AtRow bs z r i generators rest at 0
    row-begin l =
        record { mask-most = zero-le; inside = v.inside; long = v.long; same = sym (rows-turn bs z i generators rest at l) ∙ v.same }

    pub rows_whole : z.k ≤ i → got generators at ≡ r
    rows_whole l = sym (rows_end bs z i generators rest at l) ∙ v.same

  module _ {j : ℕ} (v : AtRow bs z r i generators rest at j) where
    pub row_next : {x : ℕ} → j < z.p → standing_mask bs at z.m (rest % 2) ≡ value x
        → AtRow bs z r i (set generators (i * 8 + j) x) (rest / 2) (at + rest % 2 * 4) (j + 1)
    row_next {x} l e =
        record {
          mask-most = omega arith;
          inside = standing-inside bs at z.m (rest % 2) x v.inside (omega arith) e;
          long = simp length-set v.long;
          same = sym (row-turn bs z i j generators rest at l e) ∙ v.same;
        }

    pub rows_next : i < z.k → z.p ≤ j → AtRows bs z r generators rest at (i + 1)
    rows_next h l =
        record { row-most = omega arith; inside = v.inside; long = v.long; same = sym (row-end bs z i j generators rest at l) ∙ v.same }

    pub row-stop : {n o : ℕ} → j < z.p → standing_mask bs at z.m (rest % 2) ≡ bad n o → fault n o ≡ r
    row-stop l e = sym (row-fault bs z i j generators rest at l e) ∙ v.same
