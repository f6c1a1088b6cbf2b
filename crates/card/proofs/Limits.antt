-- What was read is within the limits, and its checks stand.
use Prim.Native.Nat.{ℕ, zero, suc, ◌+◌, ◌-◌, ◌*◌, ◌/◌, ◌%◌, ◌^◌, ◌≤◌, ◌<◌}
use mathlib.Core.Path.{◌≡◌, refl, sym, ap, subst, ◌∙◌}
use mathlib.Core.List.{List, [], ◌∷◌}
use mathlib.Core.Logic.{⊎_elim}
use native.Mathlib.Nat.{div-lt_iff_lt-mul, pow-succ'}
use native.Mathlib.Numerals.{add-one}
use native.Mathlib.Omega.{arith}
use lib.ListN.{length, get_or}
use lib.Dec.{leb, eqb}
use lib.Pow.{pow_pos}
use borrow.Author.Tests.{ne_eqb, eqb-false}
use Rattle.bits.proofs.Cases.{picked}
use Rattle.code.specs.Limits.{most_checks}
use Rattle.card.specs.Fields.{Stream, Fields, code_of}
use Rattle.card.specs.Reading.{k_field, n_field, map_field, read_masks, read_rows, read_generators, read_checks, read_streams, read_fields}
use Rattle.card.specs.Reading.Field.{value, bad}
use Rattle.card.specs.Reading.Read.{got}
use Rattle.card.specs.Layout.{MasksIn, AllMasksIn, AllStreamsIn, InRanges, DefaultsIn, InLimits}
use Rattle.code.specs.declared.Card.{Card}
use Rattle.card.specs.declared.CardRule.{CardRule}
use Rattle.card.specs.declared.CardRule.TheVariants.{Former, Present}
use Rattle.card.proofs.FieldValues.{not-value, value_same, byte-is, standing-other, k-is, n-is, standing-within}
use Rattle.card.proofs.ReadParts.{got-what, field-got, next-got, map-got, head-is}
use Rattle.card.proofs.Standing.{ChecksStand}
use Rattle.card.proofs.Orthogonality.{AllStand}
use Rattle.card.proofs.WholeReading.{check-is, fields-are}

-- ---- no bit above m
pub top-of-within : (v m : ℕ) → v < 2 ^ (m + 1) → v / 2 ^ m ≤ 1
top-of-within v m h = let q = (div-lt_iff_lt-mul {y = 2} (pow_pos m)).1 (rw (add-one, pow-succ') at h) in omega arith

-- ---- masks
masks-none : (m : ℕ) → MasksIn 0 m []
masks-none m = record { many = refl; within = λ j. pow_pos (m + 1) }

masks-more : (p m v : ℕ) (vs : List ℕ) → v < 2 ^ (m + 1) → MasksIn p m vs → MasksIn (suc p) m (v ∷ vs)
masks-more p m v vs h a = record { many = ap suc a.many; within = each }
  where
    each : (j : ℕ) → get_or (v ∷ vs) j 0 < 2 ^ (m + 1)
    each zero = h
    each (suc j) = a.within j

pub masks-in : (bs : List ℕ) (m left map at : ℕ) (vs : List ℕ) {at₁ : ℕ} → read_masks bs m left map at ≡ got vs at₁ → MasksIn left m vs
unfolding read_masks
masks-in bs m zero map at vs e = subst (MasksIn 0 m) (got-what e) (masks-none m)
masks-in bs m (suc left) map at vs e =
    let a = field-got _ _ e in
    let b = map-got _ _ a.2 in
    subst (MasksIn (suc left) m) b.2
    (masks-more left m a.0 b.0 (standing-within bs at m (map % 2) a.0 a.1) (masks-in bs m left (map / 2) (at + map % 2 * 4) b.0 b.1))

-- ---- generators
rows_in : (bs : List ℕ) (m p left map at : ℕ) (rows : List (List ℕ)) {at₁ : ℕ} → read_rows bs m p left map at ≡ got rows at₁
    → (length rows ≡ left) × AllMasksIn p m rows
unfolding read_rows
rows_in bs m p zero map at rows e = subst (λ x. (length x ≡ 0) × AllMasksIn p m x) (got-what e) (refl, tt)
rows_in bs m p (suc left) map at rows e =
    let a = next-got _ _ e in
    let b = map-got _ _ a.3 in
    let k = masks-in bs m p map at a.0 a.2 in
    let r = rows_in bs m p left (map / 2 ^ p) a.1 b.0 b.1 in
    subst (λ x. (length x ≡ suc left) × AllMasksIn p m x) b.2 (ap suc r.0, (k, r.1))

generators-in : (bs : List ℕ) (at k p m : ℕ) (rows : List (List ℕ)) {at₁ : ℕ} → read_generators bs at k p m ≡ got rows at₁
    → (length rows ≡ k) × AllMasksIn p m rows
unfolding read_generators
generators-in bs at k p m rows e =
    let a = field-got (map_field bs at (k * p)) (λ map. read_rows bs m p k map (at + 2)) e in
    rows_in bs m p k a.0 (at + 2) rows a.2

-- ---- checks
module _ (bs : List ℕ) (c : Card) where
  checks-in : (i left : ℕ) (earlier : List (List ℕ)) (at : ℕ) (checks : List (List ℕ)) {at₁ : ℕ} → read_checks bs c i left earlier at ≡ got checks at₁
      → (length checks ≡ left) × AllMasksIn c.p c.m checks × ChecksStand c i earlier checks
  unfolding read_checks
  checks-in i zero earlier at checks e =
      subst (λ x. (length x ≡ 0) × AllMasksIn c.p c.m x × ChecksStand c i earlier x) (got-what e) (refl, tt, tt)
  checks-in i (suc left) earlier at checks e =
      let a = next-got _ _ e in
      let b = map-got _ _ a.3 in
      let k = check-is bs c i earlier at a.2 in
      let r = checks-in i left (a.0 ∷ earlier) a.1 b.0 b.1 in
      subst (λ x. (length x ≡ suc left) × AllMasksIn c.p c.m x × ChecksStand c i earlier x) b.2
      (ap suc r.0, (masks-in bs c.m c.p k.map (at + 1) a.0 k.masks-read, r.1), (k.stands, r.2))

  streams_in : (left i at : ℕ) (streams : List Stream) {at₁ : ℕ} → read_streams bs c left i at ≡ got streams at₁
      → (length streams ≡ left) × AllStreamsIn c.p c.m streams × AllStand c i streams
  unfolding read_streams
  streams_in zero i at streams e =
      subst (λ x. (length x ≡ 0) × AllStreamsIn c.p c.m x × AllStand c i x) (got-what e) (refl, tt, tt)
  streams_in (suc left) i at streams e =
      let a = field-got _ _ e in
      let b = next-got _ _ a.2 in
      let d = map-got _ _ b.3 in
      let n = byte-is bs at 1 most_checks 7 a.0 a.1 in
      let k = checks-in i a.0 [] (at + 1) b.0 b.2 in
      let r = streams_in left (i + 1) b.1 d.0 d.1 in
      subst (λ x. (length x ≡ suc left) × AllStreamsIn c.p c.m x × AllStand c i x) d.2
      (ap suc r.0, (record { many = k.0; j_least = n.least; j_most = n.most; masks = k.1 }, r.1), (k.2, r.2))

-- ---- the head
module _ (rule : CardRule) (bs : List ℕ) where
  k_default : (d v : ℕ) → k_field rule bs d ≡ value v → d ≡ 0 → v ≡ 1
  unfolding k_field
  k_default d v e q = sym (value_same (rw (ne_eqb d 1 (omega arith)) at e))

  n_default : (at d k v : ℕ) → n_field rule bs at d k ≡ value v → d ≡ 0 → v ≡ 2
  unfolding n_field
  n_default at d k v e q =
      ⊎_elim
      (λ w. sym (value_same w.1))
      (λ w. not-value w.1)
      (picked (leb (k + 1) 2) {x = value 2} {y = bad 3 0} (rw (ne_eqb d 1 (omega arith)) at e))

-- a field with its default does not stand
module _ (bs : List ℕ) where
  k-plain : (d v : ℕ) → d ≤ 1 → k_field Present bs d ≡ value v → v ≡ 1 → d ≡ 0
  unfolding k_field
  k-plain d v h e q =
      ⊎_elim (λ w. absurd (standing-other 1 2 _ v w.1 q)) (λ w. let z = eqb-false d 1 w.0 in omega arith) (picked (eqb d 1) e)

  n-plain : (at d k v : ℕ) → d ≤ 1 → n_field Present bs at d k ≡ value v → v ≡ 2 → d ≡ 0
  unfolding n_field
  n-plain at d k v h e q =
      ⊎_elim (λ w. absurd (standing-other 2 at _ v w.1 q)) (λ w. let z = eqb-false d 1 w.0 in omega arith) (picked (eqb d 1) e)

-- ---- the whole card
module _ (rule : CardRule) (bs : List ℕ) (f : Fields) (at : ℕ) (e : read_fields rule bs ≡ got f at) where
  ranges_in : InRanges f
  ranges_in =
      let a = fields-are rule bs f at e in
      let h = head-is rule bs f.head a.at₀ a.head_read in
      let k = k-is rule bs _ _ h.k-read in
      let n = n-is rule bs _ _ _ _ h.n-read in
      let d = h.k_stands-is in
      let t = h.n_stands-is in
      let most = h.map-byte.most in
      let r = generators-in bs a.at₀ f.head.k (f.head.n - f.head.k) f.head.m f.rows a.rows-read in
      let s = streams_in bs (code_of f.head f.rows) f.head.k 0 a.at₁ f.streams a.streams-read in
      record {
        k_stands_bit = omega arith;
        n_stands_bit = omega arith;
        number_most = h.number-byte.most;
        k_least = k.0;
        k_most = k.1;
        k_default = λ q. k_default rule bs _ f.head.k h.k-read (sym d ∙ q);
        n_least = n.0;
        n_most = n.1;
        n_default = λ q. n_default rule bs _ _ _ f.head.n h.n-read (sym t ∙ q);
        m_most = h.m-byte.most;
        row_count = r.0;
        rows_in = r.1;
        stream_count = s.0;
        streams_in = s.1;
      }

  pub read-standing : AllStand (code_of f.head f.rows) 0 f.streams
  read-standing =
      let a = fields-are rule bs f at e in
      (streams_in bs (code_of f.head f.rows) f.head.k 0 a.at₁ f.streams a.streams-read).2

defaults-in : (rule : CardRule) (bs : List ℕ) (f : Fields) (at : ℕ) → read_fields rule bs ≡ got f at → DefaultsIn rule f
defaults-in Former bs f at e = tt
defaults-in Present bs f at e =
    let a = fields-are Present bs f at e in
    let h = head-is Present bs f.head a.at₀ a.head_read in
    let most = h.map-byte.most in
    record {
      k_left_out = λ q. h.k_stands-is ∙ k-plain bs _ f.head.k (omega arith) h.k-read q;
      n_left_out = λ q. h.n_stands-is ∙ n-plain bs _ _ _ f.head.n (omega arith) h.n-read q;
    }

pub read-in : (rule : CardRule) (bs : List ℕ) (f : Fields) (at : ℕ) → read_fields rule bs ≡ got f at → InLimits rule f
read-in rule bs f at e = record { ranges = ranges_in rule bs f at e; defaults = defaults-in rule bs f at e }
