-- The bytes that were read are those of what was read.
-- `drop at bs` are the bytes from an offset on: each law takes those after a part to those from the part on.
use Prim.Native.Nat.{ℕ, zero, suc, ◌+◌, ◌-◌, ◌*◌, ◌/◌, ◌%◌, ◌^◌, ◌≤◌, ◌<◌}
use mathlib.Core.Path.{◌≡◌, refl, sym, ap, ap₂, subst, ◌∙◌}
use mathlib.Core.Bool.{cond}
use mathlib.Core.List.{List, [], ◌∷◌, ◌++◌, append_assoc, append-nil}
use mathlib.Core.Logic.{⊎_elim}
use native.Mathlib.Nat.{zero-mul, mod-eq_of_lt}
use native.Mathlib.Numerals.{add-one}
use native.Mathlib.Omega.{arith}
use lib.ListN.{length, get_or, drop, drop_of_length-le}
use lib.Seq.{drop-cons}
use lib.Dec.{eqb}
use lib.Pow.{lt_of_le_ones}
use borrow.Author.Tests.{eq-eqb, ne_eqb, eqb-true, eqb-false}
use Rattle.bits.proofs.Cases.{same_or_not, picked}
use Rattle.code.specs.Limits.{most_checks}
use Rattle.card.specs.Fields.{Head, Stream, Fields, code_of}
use Rattle.card.specs.Reading.{k_field, n_field, word_at, standing_mask, read_head, read_masks, read_rows, read_generators, read_checks, read_streams, read_fields}
use Rattle.card.specs.Reading.Field.{value}
use Rattle.card.specs.Reading.Read.{got}
use Rattle.card.specs.Layout.{bytes4, stands, map_of, layout_masks, optional, layout_head, all_rows, layout_rows, layout_checks, layout_streams, layout}
use Rattle.code.specs.declared.Card.{Card}
use Rattle.card.specs.declared.CardRule.{CardRule}
use Rattle.card.proofs.FieldValues.{value_same, ByteIs, byte-is, standing-is, mask_is, map_is}
use Rattle.card.proofs.ReadParts.{got-what, got-where, field-got, next-got, map-got, head-is}
use Rattle.card.proofs.WholeReading.{check-is, fields-are}
use Rattle.card.proofs.Limits.{masks-in}
use Rattle.card.proofs.LayoutLaws.{digit-first, digits-first, whole-map, map-append, masks-append, head-append}

module _ (bs : List ℕ) where
  -- the same offset in other words
  pub drop-same : {at at₁ : ℕ} {l : List ℕ} → at ≡ at₁ → drop at₁ bs ≡ l → drop at bs ≡ l
  drop-same e g = ap (λ n. drop n bs) e ∙ g

  -- one byte more
  drop-next : (at n : ℕ) → n ≡ at + 1 → at < length bs → {v : ℕ} {l : List ℕ} → get_or bs at 0 ≡ v → drop n bs ≡ l → drop at bs ≡ v ∷ l
  drop-next at n q h e g = drop-cons bs at 0 h ∙ ap₂ (λ x y. x ∷ y) e (drop-same (sym (add-one at) ∙ sym q) g)

  drop-byte : (at low high v : ℕ) {l : List ℕ} → ByteIs bs at low high v → drop (at + 1) bs ≡ l → drop at bs ≡ v ∷ l
  drop-byte at low high v b g = drop-next at (at + 1) refl b.inside b.byte g

  -- ---- the head
  drop-optional : (at d v low high : ℕ) {l : List ℕ} → d < 2 → (d ≡ 1 → ByteIs bs at low high v) → drop (at + d) bs ≡ l
      → drop at bs ≡ optional d v ++ l
  unfolding optional
  drop-optional at d v low high h b g =
      ⊎_elim
      (λ q. let e : at + 1 ≡ at + d = omega arith in rw (eq-eqb d 1 q) (drop-byte at low high v (b q) (drop-same e g)))
      (λ q. let e : at ≡ at + d = omega arith in rw (ne_eqb d 1 q) (drop-same e g))
      (same_or_not d 1)

  k-byte : (rule : CardRule) (d v : ℕ) → k_field rule bs d ≡ value v → d ≡ 1 → ByteIs bs 2 1 4 v
  unfolding k_field
  k-byte rule d v e q = byte-is bs 2 1 4 2 v (standing-is rule 1 2 _ v (rw (eq-eqb d 1 q) at e))

  n-byte : (rule : CardRule) (at d k v : ℕ) → n_field rule bs at d k ≡ value v → d ≡ 1 → ByteIs bs at (k + 1) 8 v
  unfolding n_field
  n-byte rule at d k v e q = byte-is bs at (k + 1) 8 3 v (standing-is rule 2 at _ v (rw (eq-eqb d 1 q) at e))

  drop_head : (rule : CardRule) (h : Head) (at : ℕ) {l : List ℕ} → read_head rule bs ≡ got h at → drop at bs ≡ l → bs ≡ layout_head h ++ l
  drop_head rule h at {l} e g =
      let i = head-is rule bs h at e in
      let d = i.k_stands-is in
      let t = i.n_stands-is in
      let most = i.map-byte.most in
      let q : i.map ≡ h.k_stands + 2 * h.n_stands = omega arith in
      let last = drop-byte (2 + i.map % 2 + i.map / 2) 0 31 h.m i.m-byte (drop-same (sym i.at-is) g) in
      let second =
      drop-optional (2 + i.map % 2) (i.map / 2) h.n (h.k + 1) 8 (omega arith)
      (n-byte rule (2 + i.map % 2) (i.map / 2) h.k h.n i.n-read) last in
      let first = drop-optional 2 (i.map % 2) h.k 1 4 (omega arith) (k-byte rule (i.map % 2) h.k i.k-read) second in
      drop-byte 0 0 3 i.map i.map-byte (drop-byte 1 0 255 h.number i.number-byte first)
      ∙ rw (← d, ← t, q) (head-append h l)

  module _ (bytes : (i : ℕ) → get_or bs i 0 < 256) where
    -- ---- masks
    drop-word : (at v : ℕ) {l : List ℕ} → at + 4 ≤ length bs → word_at bs at ≡ v → drop (at + 4) bs ≡ l → drop at bs ≡ bytes4 v ++ l
    unfolding word_at bytes4
    drop-word at v h e g =
        let a = bytes at in
        let b = bytes (at + 1) in
        let c = bytes (at + 2) in
        let d = bytes (at + 3) in
        drop-next at (at + 1) refl (omega arith) (omega arith)
        (drop-next (at + 1) (at + 2) (omega arith) (omega arith) (omega arith)
        (drop-next (at + 2) (at + 3) (omega arith) (omega arith) (omega arith)
        (drop-next (at + 3) (at + 4) (omega arith) (omega arith) (omega arith) g)))

    drop-mask : (at m d v : ℕ) {l : List ℕ} → d < 2 → standing_mask bs at m d ≡ value v → drop (at + d * 4) bs ≡ l
        → (stands v ≡ d) × (drop at bs ≡ cond (eqb v 0) [] (bytes4 v) ++ l)
    unfolding standing_mask stands
    drop-mask at m d v {l} h e g =
        ⊎_elim
        (λ w.
        let i = mask_is bs at m v w.1 in
        let q = eqb-true d 1 w.0 in
        let z : at + 4 ≡ at + d * 4 = omega arith in
        rw (ne_eqb v 0 i.stands) (sym q, drop-word at v i.inside i.word (drop-same z g)))
        (λ w.
        let q = eqb-false d 1 w.0 in
        let z : d ≡ 0 = omega arith in
        let y : at ≡ at + d * 4 = omega arith in
        rw (eq-eqb v 0 (sym (value_same w.1))) (sym z, drop-same y g))
        (picked (eqb d 1) e)

    drop-masks : (m left map at : ℕ) (vs : List ℕ) {at₁ : ℕ} {l : List ℕ} → read_masks bs m left map at ≡ got vs at₁ → drop at₁ bs ≡ l
        → (map_of vs ≡ map % 2 ^ left) × (drop at bs ≡ layout_masks vs ++ l)
    unfolding read_masks map_of layout_masks
    drop-masks m zero map at vs {at₁} {l} e g =
        subst (λ x. (map_of x ≡ map % 2 ^ 0) × (drop at bs ≡ layout_masks x ++ l)) (got-what e) (omega arith, drop-same (got-where e) g)
    drop-masks m (suc left) map at vs {at₁} {l} e g =
        let a = field-got _ _ e in
        let b = map-got _ _ a.2 in
        let r = drop-masks m left (map / 2) (at + map % 2 * 4) b.0 b.1 g in
        let k = drop-mask at m (map % 2) a.0 (omega arith) a.1 r.1 in
        let r₀ = r.0 in
        let k₀ = k.0 in
        let z = digit-first map left in
        subst (λ x. (map_of x ≡ map % 2 ^ suc left) × (drop at bs ≡ layout_masks x ++ l)) b.2
        (omega arith, k.1 ∙ sym (append_assoc (cond (eqb a.0 0) [] (bytes4 a.0)) (layout_masks b.0) l))

    -- ---- generators
    drop-rows : (m p left map at : ℕ) (rows : List (List ℕ)) {at₁ : ℕ} {l : List ℕ} → read_rows bs m p left map at ≡ got rows at₁ → drop at₁ bs ≡ l
        → (map_of (all_rows rows) ≡ map % 2 ^ (left * p)) × (drop at bs ≡ layout_masks (all_rows rows) ++ l)
    unfolding read_rows all_rows
    drop-rows m p zero map at rows {at₁} {l} e g =
        subst (λ x. (map_of (all_rows x) ≡ map % 2 ^ (0 * p)) × (drop at bs ≡ layout_masks (all_rows x) ++ l)) (got-what e)
        (unfold map_of in (rw zero-mul (omega arith)), unfold layout_masks in (drop-same (got-where e) g))
    drop-rows m p (suc left) map at rows {at₁} {l} e g =
        let a = next-got _ _ e in
        let b = map-got _ _ a.3 in
        let r = drop-rows m p left (map / 2 ^ p) a.1 b.0 b.1 g in
        let k = drop-masks m p map at a.0 a.2 r.1 in
        let n = (masks-in bs m p map at a.0 a.2).many in
        subst (λ x. (map_of (all_rows x) ≡ map % 2 ^ (suc left * p)) × (drop at bs ≡ layout_masks (all_rows x) ++ l)) b.2 (
          map-append a.0 (all_rows b.0) ∙ rw (k.0, r.0, n) (sym (digits-first map p left)),
          k.1
              ∙ sym (append_assoc (layout_masks a.0) (layout_masks (all_rows b.0)) l)
              ∙ ap (λ x. x ++ l) (sym (masks-append a.0 (all_rows b.0))),
        )

    drop-generators : (at k p m : ℕ) (rows : List (List ℕ)) {at₁ : ℕ} {l : List ℕ} → read_generators bs at k p m ≡ got rows at₁ → drop at₁ bs ≡ l
        → drop at bs ≡ layout_rows rows ++ l
    unfolding read_generators layout_rows
    drop-generators at k p m rows e g =
        let a = field-got _ _ e in
        let i = map_is bs at (k * p) a.0 a.1 in
        let r = drop-rows m p k a.0 (at + 2) rows a.2 g in
        let z : map_of (all_rows rows) ≡ a.0 = r.0 ∙ whole-map a.0 (k * p) i.within in
        let b = bytes at in
        let c = bytes (at + 1) in
        let y = i.bytes in
        let h = i.inside in
        drop-next at (at + 1) refl (omega arith) (omega arith) (drop-next (at + 1) (at + 2) (omega arith) (omega arith) (omega arith) r.1)

    -- ---- checks
    drop-checks : (c : Card) (i left : ℕ) (earlier : List (List ℕ)) (at : ℕ) (checks : List (List ℕ)) {at₁ : ℕ} {l : List ℕ}
        → read_checks bs c i left earlier at ≡ got checks at₁ → drop at₁ bs ≡ l → drop at bs ≡ layout_checks checks ++ l
    unfolding read_checks layout_checks
    drop-checks c i zero earlier at checks {at₁} {l} e g = subst (λ x. drop at bs ≡ layout_checks x ++ l) (got-what e) (drop-same (got-where e) g)
    drop-checks c i (suc left) earlier at checks {at₁} {l} e g =
        let a = next-got _ _ e in
        let b = map-got _ _ a.3 in
        let k = check-is bs c i earlier at a.2 in
        let r = drop-checks c i left (a.0 ∷ earlier) a.1 b.0 b.1 g in
        let y = byte-is bs at 0 (2 ^ c.p - 1) 5 k.map k.map_read in
        let m = drop-masks c.m c.p k.map (at + 1) a.0 k.masks-read r in
        let q : k.map ≡ map_of a.0 = sym (m.0 ∙ mod-eq_of_lt (lt_of_le_ones c.p y.most)) in
        subst (λ x. drop at bs ≡ layout_checks x ++ l) b.2
        (drop-byte at 0 (2 ^ c.p - 1) k.map y m.1
        ∙ ap₂ (λ x y. x ∷ y) q (sym (append_assoc (layout_masks a.0) (layout_checks b.0) l)))

    drop-streams : (c : Card) (left i at : ℕ) (streams : List Stream) {at₁ : ℕ} {l : List ℕ} → read_streams bs c left i at ≡ got streams at₁
        → drop at₁ bs ≡ l → drop at bs ≡ layout_streams streams ++ l
    unfolding read_streams layout_streams
    drop-streams c zero i at streams {at₁} {l} e g = subst (λ x. drop at bs ≡ layout_streams x ++ l) (got-what e) (drop-same (got-where e) g)
    drop-streams c (suc left) i at streams {at₁} {l} e g =
        let a = field-got _ _ e in
        let b = next-got _ _ a.2 in
        let d = map-got _ _ b.3 in
        let r = drop-streams c left (i + 1) b.1 d.0 d.1 g in
        let y = byte-is bs at 1 most_checks 7 a.0 a.1 in
        let m = drop-checks c i a.0 [] (at + 1) b.0 b.2 r in
        subst (λ x. drop at bs ≡ layout_streams x ++ l) d.2
        (drop-byte at 1 most_checks a.0 y m ∙ ap (λ y. a.0 ∷ y) (sym (append_assoc (layout_checks b.0) (layout_streams d.0) l)))

    -- ---- the whole card
    pub read-laid : (rule : CardRule) (f : Fields) (at : ℕ) → read_fields rule bs ≡ got f at → bs ≡ layout f
    unfolding layout
    read-laid rule f at e =
        let a = fields-are rule bs f at e in
        drop_head rule f.head a.at₀ a.head_read
        (drop-generators a.at₀ f.head.k (f.head.n - f.head.k) f.head.m f.rows a.rows-read
        (drop-streams (code_of f.head f.rows) f.head.k 0 a.at₁ f.streams a.streams-read (drop_of_length-le bs a.at-end)
        ∙ append-nil (layout_streams f.streams)))
