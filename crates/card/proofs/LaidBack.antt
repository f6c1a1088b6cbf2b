-- The bytes of a head and of generators within the limits are read back as these.
-- `drop at bs` are the bytes from an offset on: each law takes those from a part on to the part read and those after it.
use Prim.Native.Nat.{ℕ, suc, ◌+◌, ◌*◌, ◌/◌, ◌%◌, ◌^◌, ◌≤◌, ◌<◌}
use mathlib.Core.Path.{◌≡◌, refl, sym, ap, subst, ◌∙◌}
use mathlib.Core.Bool.{cond}
use mathlib.Core.List.{List, [], ◌∷◌, ◌++◌, append_assoc}
use mathlib.Core.Logic.{◌⊎◌, inl, inr, ⊎_elim}
use native.Mathlib.Nat.{div-div-eq-div-mul, div-eq_of_lt, mod-eq_of_lt, lt_of_lt_of_le}
use native.Mathlib.Numerals.{add-one}
use native.Mathlib.Omega.{arith}
use lib.ListN.{length, get_or, drop, drop_of_length-le}
use lib.Seq.{drop-cons}
use lib.Dec.{leb, eqb}
use lib.Pow.{pow_mono}
use borrow.Author.Tests.{eq-eqb, ne_eqb, lt-ltb, le-leb}
use Rattle.bits.proofs.Cases.{le-or-lt, same_or_not}
use Rattle.card.specs.Fields.{Fields}
use Rattle.card.specs.Reading.{Field, byte_field, standing_field, k_field, n_field, map_field, word_at, mask_field, standing_mask, read_head, read_masks, read_rows, read_generators}
use Rattle.card.specs.Reading.Field.{value, bad}
use Rattle.card.specs.Reading.Read.{got}
use Rattle.card.specs.Layout.{bytes4, stands, map_of, layout_masks, optional, layout_head, all_rows, layout_rows, MasksIn, AllMasksIn, InLimits, DefaultsIn}
use Rattle.card.specs.declared.CardRule.{CardRule}
use Rattle.card.specs.declared.CardRule.TheVariants.{Former, Present}
use Rattle.card.proofs.LayoutLaws.{map-lt, map-digits, map-parts, masks-append, rows_long, head-append}
use Rattle.card.proofs.Limits.{top-of-within}
use Rattle.card.proofs.Laid.{drop-same}

head-same : {x y : ℕ} {l m : List ℕ} → x ∷ l ≡ y ∷ m → x ≡ y
head-same e = cc

tail-same : {x y : ℕ} {l m : List ℕ} → x ∷ l ≡ y ∷ m → l ≡ m
tail-same e = cc

nil_not : {A : Type 0} {x : ℕ} {l : List ℕ} → [] ≡ x ∷ l → A
nil_not e = let z : ◌≡◌ {A = ℕ} 0 1 = cc in absurd (omega arith)

-- a mask is the number of its four bytes
word-whole : (v : ℕ) → v < 2 ^ 32 → v % 256 + v / 256 % 256 * 256 + v / 65536 % 256 * 65536 + v / 16777216 % 256 * 16777216 ≡ v
word-whole v h =
    let a : v / 256 / 256 ≡ v / 65536 = div-div-eq-div-mul v 256 256 in
    let b : v / 65536 / 256 ≡ v / 16777216 = div-div-eq-div-mul v 65536 256 in
    let c : v / 16777216 < 256 = omega arith in
    let d : v / 16777216 % 256 ≡ v / 16777216 = mod-eq_of_lt c in
    let e : v / 65536 ≡ v / 16777216 * 256 + v / 65536 % 256 = omega arith in
    let f : v / 256 ≡ v / 65536 * 256 + v / 256 % 256 = omega arith in
    omega arith

-- ---- fields that stand

-- the rule lets a field with this value stand
abbrev MayStand : CardRule → ℕ → ℕ → Type 0
MayStand Former default v = Unit {0}
MayStand Present default v = v ≡ default → ⊥

may-stand : (rule : CardRule) (f : Fields) → DefaultsIn rule f
    → (f.head.k_stands ≡ 1 → MayStand rule 1 f.head.k) × (f.head.n_stands ≡ 1 → MayStand rule 2 f.head.n)
may-stand Former f d = (λ z. tt, λ z. tt)
may-stand Present f d =
    (λ z q. let y = d.k_left_out q in omega arith, λ z q. let y = d.n_left_out q in omega arith)

let-stand : (rule : CardRule) (default at v : ℕ) → MayStand rule default v → {g : Field} → g ≡ value v → standing_field rule default at g ≡ value v
unfolding standing_field
let-stand Former default at v m e = e
let-stand Present default at v m e = rw e (rw (ne_eqb v default m))

module _ (bs : List ℕ) where
  -- ---- fields
  byte-from : (at x : ℕ) (l : List ℕ) → drop at bs ≡ x ∷ l → (at < length bs) × (get_or bs at 0 ≡ x) × (drop (at + 1) bs ≡ l)
  byte-from at x l e =
      ⊎_elim
      (λ h. nil_not (sym (drop_of_length-le bs h) ∙ e))
      (λ h. let q = sym (drop-cons bs at 0 h) ∙ e in (h, head-same q, drop-same bs (add-one at) (tail-same q)))
      (le-or-lt (length bs) at)

  pub byte-back : (at low high number v : ℕ) (l : List ℕ) → drop at bs ≡ v ∷ l → low ≤ v → v ≤ high
      → (byte_field bs at low high number ≡ value v) × (drop (at + 1) bs ≡ l)
  unfolding byte_field
  byte-back at low high number v l e h k =
      let u = byte-from at v l e in
      (rw (lt-ltb at (length bs) u.0, u.1, le-leb low v h, le-leb v high k), u.2)

  word_back : (at v : ℕ) (l : List ℕ) → v < 2 ^ 32 → drop at bs ≡ bytes4 v ++ l → (at + 4 ≤ length bs) × (word_at bs at ≡ v) × (drop (at + 4) bs ≡ l)
  unfolding bytes4 word_at
  word_back at v l h e =
      let a = byte-from at _ _ e in
      let b = byte-from (at + 1) _ _ a.2 in
      let c = byte-from (at + 1 + 1) _ _ b.2 in
      let d = byte-from (at + 1 + 1 + 1) _ _ c.2 in
      let e₂ : at + 2 ≡ at + 1 + 1 = omega arith in
      let e₃ : at + 3 ≡ at + 1 + 1 + 1 = omega arith in
      let e₄ : at + 4 ≡ at + 1 + 1 + 1 + 1 = omega arith in
      let inside = d.0 in
      (omega arith, rw (e₂, e₃, a.1, b.1, c.1, d.1) (word-whole v h), drop-same bs e₄ d.2)

  -- ---- masks
  standing-back : (at m v : ℕ) (l : List ℕ) → m ≤ 31 → v < 2 ^ (m + 1) → drop at bs ≡ cond (eqb v 0) [] (bytes4 v) ++ l
      → (standing_mask bs at m (stands v) ≡ value v) × (drop (at + stands v * 4) bs ≡ l)
  unfolding standing_mask stands mask_field
  standing-back at m v l h k e =
      ⊎_elim
      (λ q.
      let z : at + 0 * 4 ≡ at = omega arith in
      (rw (eq-eqb v 0 q) (ap value (sym q)), rw (eq-eqb v 0 q) (drop-same bs z (rw (eq-eqb v 0 q) at e))))
      (λ q.
      let w = word_back at v l (lt_of_lt_of_le k (pow_mono {i = m + 1} {j = 32} (omega arith))) (rw (ne_eqb v 0 q) at e) in
      let z : at + 1 * 4 ≡ at + 4 = omega arith in (
        rw (ne_eqb v 0 q) (rw (le-leb (at + 4) (length bs) w.0, w.1, ne_eqb v 0 q, le-leb (v / 2 ^ m) 1 (top-of-within v m k))),
        rw (ne_eqb v 0 q) (drop-same bs z w.2),
      ))
      (same_or_not v 0)

  masks-step : (m map at d v : ℕ) (vs : List ℕ) (at₁ : ℕ) → map % 2 ≡ d → standing_mask bs at m d ≡ value v
      → read_masks bs m (length vs) (map / 2) (at + d * 4) ≡ got vs at₁ → read_masks bs m (suc (length vs)) map at ≡ got (v ∷ vs) at₁
  unfolding read_masks
  masks-step m map at d v vs at₁ q e r = rw (q, e, r)

  masks-from : (m : ℕ) (vs : List ℕ) (map at : ℕ) (l : List ℕ) → m ≤ 31 → ((j : ℕ) → get_or vs j 0 < 2 ^ (m + 1)) → map % 2 ^ length vs ≡ map_of vs
      → drop at bs ≡ layout_masks vs ++ l → (at₁ : ℕ) × (read_masks bs m (length vs) map at ≡ got vs at₁) × (drop at₁ bs ≡ l)
  unfolding layout_masks
  masks-from m [] map at l h s q e = (at, unfold read_masks in refl, e)
  masks-from m (v ∷ vs) map at l h s q e =
      let d = map-digits v vs map q in
      let k = standing-back at m v (layout_masks vs ++ l) h (s 0) (e ∙ append_assoc (cond (eqb v 0) [] (bytes4 v)) (layout_masks vs) l) in
      let r = masks-from m vs (map / 2) (at + stands v * 4) l h (λ j. s (suc j)) d.1 k.1 in
      (r.0, masks-step m map at (stands v) v vs r.0 d.0 k.0 r.1, r.2)

  pub masks-back : (p m : ℕ) (vs : List ℕ) (map at : ℕ) (l : List ℕ) → m ≤ 31 → MasksIn p m vs → map % 2 ^ length vs ≡ map_of vs
      → drop at bs ≡ layout_masks vs ++ l → (at₁ : ℕ) × (read_masks bs m p map at ≡ got vs at₁) × (drop at₁ bs ≡ l)
  masks-back p m vs map at l h a q e =
      let r = masks-from m vs map at l h a.within q e in
      (r.0, subst (λ x. read_masks bs m x map at ≡ got vs r.0) a.many r.1, r.2)

  -- ---- generators
  rows_step : (m p map at : ℕ) (vs : List ℕ) (rows : List (List ℕ)) (rest at₁ at₂ : ℕ) → map / 2 ^ p ≡ rest → read_masks bs m p map at ≡ got vs at₁
      → read_rows bs m p (length rows) rest at₁ ≡ got rows at₂ → read_rows bs m p (suc (length rows)) map at ≡ got (vs ∷ rows) at₂
  unfolding read_rows
  rows_step m p map at vs rows rest at₁ at₂ q e r = rw (e, q, r)

  rows_back : (m p : ℕ) (rows : List (List ℕ)) (at : ℕ) (l : List ℕ) → m ≤ 31 → AllMasksIn p m rows → drop at bs ≡ layout_masks (all_rows rows) ++ l
      → (at₁ : ℕ) × (read_rows bs m p (length rows) (map_of (all_rows rows)) at ≡ got rows at₁) × (drop at₁ bs ≡ l)
  unfolding all_rows
  rows_back m p [] at l h a e = (at, unfold read_rows in refl, unfold layout_masks in e)
  rows_back m p (vs ∷ rows) at l h a e =
      let map = map_of (vs ++ all_rows rows) in
      let b = map-parts vs (all_rows rows) in
      let e₁ = e ∙ ap (λ x. x ++ l) (masks-append vs (all_rows rows)) ∙ append_assoc (layout_masks vs) (layout_masks (all_rows rows)) l in
      let k = masks-back p m vs map at (layout_masks (all_rows rows) ++ l) h a.0 b.0 e₁ in
      let r = rows_back m p rows k.0 l h a.1 k.2 in
      let q : map / 2 ^ p ≡ map_of (all_rows rows) = subst (λ x. map / 2 ^ x ≡ map_of (all_rows rows)) a.0.many b.1 in
      (r.0, rows_step m p map at vs rows (map_of (all_rows rows)) k.0 r.0 q k.1 r.1, r.2)

  map_back : (at count v : ℕ) (l : List ℕ) → v / 2 ^ count ≡ 0 → drop at bs ≡ v % 256 ∷ (v / 256 ∷ l)
      → (map_field bs at count ≡ value v) × (drop (at + 2) bs ≡ l)
  unfolding map_field
  map_back at count v l h e =
      let a = byte-from at _ _ e in
      let b = byte-from (at + 1) _ _ a.2 in
      let a₁ = a.1 in
      let b₁ = b.1 in
      let inside = b.0 in
      let z : at + 2 ≡ at + 1 + 1 = omega arith in
      (map-value (get_or bs at 0) (get_or bs (at + 1) 0) (omega arith) (omega arith), drop-same bs z b.2)
    where
      map-value : (x y : ℕ) → at + 2 ≤ length bs → x + y * 256 ≡ v
          → cond (leb (at + 2) (length bs)) (cond (eqb ((x + y * 256) / 2 ^ count) 0) (value (x + y * 256)) (bad 5 at)) (bad 1 (length bs)) ≡ value v
      map-value x y k q = rw (le-leb (at + 2) (length bs) k, q, eq-eqb (v / 2 ^ count) 0 h)

  generators-step : (at k p m map : ℕ) (rows : List (List ℕ)) (at₁ : ℕ) → map_field bs at (k * p) ≡ value map
      → read_rows bs m p k map (at + 2) ≡ got rows at₁ → read_generators bs at k p m ≡ got rows at₁
  unfolding read_generators
  generators-step at k p m map rows at₁ e r = rw (e, r)

  pub generators-back : (at p m : ℕ) (rows : List (List ℕ)) (l : List ℕ) → m ≤ 31 → AllMasksIn p m rows → drop at bs ≡ layout_rows rows ++ l
      → (at₁ : ℕ) × (read_generators bs at (length rows) p m ≡ got rows at₁) × (drop at₁ bs ≡ l)
  unfolding layout_rows
  generators-back at p m rows l h a e =
      let map = map_of (all_rows rows) in
      let u = subst (λ x. map < 2 ^ x) (rows_long p m rows a) (map-lt (all_rows rows)) in
      let q = map_back at (length rows * p) map (layout_masks (all_rows rows) ++ l) (div-eq_of_lt u) e in
      let r = rows_back m p rows (at + 2) l h a q.1 in
      (r.0, generators-step at (length rows) p m map rows r.0 q.0 r.1, r.2)

  -- ---- the head
  optional-back : (at d v : ℕ) (l : List ℕ) → d ≤ 1 → drop at bs ≡ optional d v ++ l
      → ((d ≡ 0) × (drop at bs ≡ l)) ⊎ ((d ≡ 1) × (drop at bs ≡ v ∷ l))
  unfolding optional
  optional-back at d v l h e =
      ⊎_elim (λ q. inr (q, rw (eq-eqb d 1 q) at e)) (λ q. inl (omega arith, rw (ne_eqb d 1 q) at e)) (same_or_not d 1)

  module _ (rule : CardRule) where
    -- a field that stands has its value, unless the rule refuses that
    k-back : (d k : ℕ) (l : List ℕ) → d ≤ 1 → 1 ≤ k → k ≤ 4 → (d ≡ 0 → k ≡ 1) → (d ≡ 1 → MayStand rule 1 k) → drop 2 bs ≡ optional d k ++ l
        → (k_field rule bs d ≡ value k) × (drop (2 + d) bs ≡ l)
    unfolding k_field
    k-back d k l h least most default may e =
        ⊎_elim
        (λ w.
        let z = w.0 in
        let y : 2 + d ≡ 2 = omega arith in
        (rw (ne_eqb d 1 (omega arith)) (ap value (sym (default z))), drop-same bs y w.1))
        (λ w.
        let z = w.0 in
        let y : 2 + d ≡ 2 + 1 = omega arith in
        let r = byte-back 2 1 4 2 k l w.1 least most in
        (rw (eq-eqb d 1 z) (let-stand rule 1 2 k (may z) r.0), drop-same bs y r.1))
        (optional-back 2 d k l h e)

    n-back : (at d k n : ℕ) (l : List ℕ) → d ≤ 1 → k + 1 ≤ n → n ≤ 8 → (d ≡ 0 → n ≡ 2) → (d ≡ 1 → MayStand rule 2 n) → drop at bs ≡ optional d n ++ l
        → (n_field rule bs at d k ≡ value n) × (drop (at + d) bs ≡ l)
    unfolding n_field
    n-back at d k n l h least most default may e =
        ⊎_elim
        (λ w.
        let z = w.0 in
        let q = default z in
        let y : at + d ≡ at = omega arith in
        (rw (ne_eqb d 1 (omega arith)) (rw (le-leb (k + 1) 2 (omega arith)) (ap value (sym q))), drop-same bs y w.1))
        (λ w.
        let z = w.0 in
        let y : at + d ≡ at + 1 = omega arith in
        let r = byte-back at (k + 1) 8 3 n l w.1 least most in
        (rw (eq-eqb d 1 z) (let-stand rule 2 at n (may z) r.0), drop-same bs y r.1))
        (optional-back at d n l h e)

    head_step : (map number k n m d t : ℕ) → map % 2 ≡ d → map / 2 ≡ t → byte_field bs 0 0 3 5 ≡ value map → byte_field bs 1 0 255 1 ≡ value number
        → k_field rule bs d ≡ value k → n_field rule bs (2 + d) t k ≡ value n → byte_field bs (2 + d + t) 0 31 4 ≡ value m
        → read_head rule bs ≡ got (record { k_stands = d; n_stands = t; number = number; k = k; n = n; m = m }) (2 + d + t + 1)
    unfolding read_head
    head_step map number k n m d t q q₁ e₁ e₂ e₃ e₄ e₅ = rw (e₁, e₂, q, e₃, q₁, e₄, e₅)

    pub head-back : (f : Fields) (l : List ℕ) → InLimits rule f → bs ≡ layout_head f.head ++ l
        → (at : ℕ) × (read_head rule bs ≡ got f.head at) × (drop at bs ≡ l)
    head-back f l limits e =
        let w = limits.ranges in
        let k₁ = w.k_stands_bit in
        let n₁ = w.n_stands_bit in
        let a = byte-back 0 0 3 5 (f.head.k_stands + 2 * f.head.n_stands) _ (e ∙ sym (head-append f.head l)) (omega arith) (omega arith) in
        let b = byte-back 1 0 255 1 f.head.number _ a.1 (omega arith) w.number_most in
        let may = may-stand rule f limits.defaults in
        let c = k-back f.head.k_stands f.head.k _ w.k_stands_bit w.k_least w.k_most w.k_default may.0 b.1 in
        let d =
        n-back (2 + f.head.k_stands) f.head.n_stands f.head.k f.head.n _ w.n_stands_bit w.n_least w.n_most w.n_default may.1 c.1 in
        let g = byte-back (2 + f.head.k_stands + f.head.n_stands) 0 31 4 f.head.m l d.1 (omega arith) w.m_most in (
          2 + f.head.k_stands + f.head.n_stands + 1,
          head_step (f.head.k_stands + 2 * f.head.n_stands) f.head.number f.head.k f.head.n f.head.m f.head.k_stands f.head.n_stands
              (omega arith) (omega arith) a.0 b.0 c.0 d.0 g.0,
          g.1,
        )
