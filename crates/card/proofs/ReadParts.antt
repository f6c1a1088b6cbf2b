-- What is known where a part of a card was read.
use Prim.Native.Nat.{ℕ, zero, suc, ◌+◌, ◌*◌, ◌/◌, ◌%◌, ◌^◌, ◌≤◌}
use mathlib.Core.Path.{◌≡◌, refl, sym, ap, ◌∙◌}
use mathlib.Core.List.{List}
use native.Mathlib.Omega.{arith}
use lib.ListN.{length}
use Rattle.card.specs.Fields.{Head}
use Rattle.card.specs.Reading.{Field, Read, next, read_mapped, field, k_field, n_field, read_head, read_masks, read_rows, read_generators}
use Rattle.card.specs.Reading.Field.{value, bad}
use Rattle.card.specs.Reading.Read.{got, fault}
use Rattle.card.specs.declared.CardRule.{CardRule}
use Rattle.card.proofs.FieldValues.{ByteIs, byte-is, k-is, n-is, map_is, standing-inside}

pub not-got : {X A : Type 0} {n o at : ℕ} {x : X} → fault n o ≡ got x at → A
not-got e = let z : ◌≡◌ {A = ℕ} 0 1 = cc in absurd (omega arith)

pub got-what : {X : Type 0} {x y : X} {at at₁ : ℕ} → got x at ≡ got y at₁ → x ≡ y
got-what e = cc

pub got-where : {X : Type 0} {x y : X} {at at₁ : ℕ} → got x at ≡ got y at₁ → at ≡ at₁
got-where e = cc

pub field-got : {B : Type 0} (f : Field) (go : ℕ → Read B) {b : B} {at : ℕ} → field f go ≡ got b at → (v : ℕ) × (f ≡ value v) × (go v ≡ got b at)
field-got (value v) go e = (v, refl, e)
field-got (bad n o) go e = not-got e

pub next-got : {X B : Type 0} (r : Read X) (go : X → ℕ → Read B) {b : B} {at : ℕ} → next r go ≡ got b at
    → (x : X) × (at₁ : ℕ) × (r ≡ got x at₁) × (go x at₁ ≡ got b at)
next-got (got x at₁) go e = (x, at₁, refl, e)
next-got (fault n o) go e = not-got e

pub map-got : {X B : Type 0} (g : X → B) (r : Read X) {b : B} {at : ℕ} → read_mapped g r ≡ got b at → (x : X) × (r ≡ got x at) × (g x ≡ b)
map-got g (got x at₁) e = (x, ap (λ a. got x a) (got-where e), got-what e)
map-got g (fault n o) e = not-got e

pub map-faulted : {X B : Type 0} (g : X → B) (r : Read X) {n o : ℕ} → read_mapped g r ≡ fault n o → r ≡ fault n o
map-faulted g (got x at) e = not-got (sym e)
map-faulted g (fault n o) e = cc

-- ---- the head
pub record HeadIs (rule : CardRule) (bs : List ℕ) (h : Head) (at : ℕ) : Type 0 where
  pub map : ℕ
  pub map-byte : ByteIs bs 0 0 3 map
  pub number-byte : ByteIs bs 1 0 255 h.number
  pub k-read : k_field rule bs (map % 2) ≡ value h.k
  pub n-read : n_field rule bs (2 + map % 2) (map / 2) h.k ≡ value h.n
  pub m-byte : ByteIs bs (2 + map % 2 + map / 2) 0 31 h.m
  pub k_stands-is : h.k_stands ≡ map % 2
  pub n_stands-is : h.n_stands ≡ map / 2
  pub at-is : at ≡ 2 + map % 2 + map / 2 + 1

pub head-is : (rule : CardRule) (bs : List ℕ) (h : Head) (at : ℕ) → read_head rule bs ≡ got h at → HeadIs rule bs h at
unfolding read_head
head-is rule bs h at e =
    let a = field-got _ _ e in
    let b = field-got _ _ a.2 in
    let c = field-got _ _ b.2 in
    let d = field-got _ _ c.2 in
    let f = field-got _ _ d.2 in
    let w = got-what f.2 in
    record {
      map = a.0;
      map-byte = byte-is bs 0 0 3 5 a.0 a.1;
      number-byte = byte-is bs 1 0 255 1 h.number (b.1 ∙ ap (λ x. value x.number) w);
      k-read = c.1 ∙ ap (λ x. value x.k) w;
      n-read = ap (λ k. n_field rule bs (2 + a.0 % 2) (a.0 / 2) k) (sym (ap (λ (x : Head). x.k) w)) ∙ (d.1 ∙ ap (λ x. value x.n) w);
      m-byte = byte-is bs (2 + a.0 % 2 + a.0 / 2) 0 31 4 h.m (f.1 ∙ ap (λ x. value x.m) w);
      k_stands-is = sym (ap (λ (x : Head). x.k_stands) w);
      n_stands-is = sym (ap (λ (x : Head). x.n_stands) w);
      at-is = sym (got-where f.2);
    }

pub record HeadIn (bs : List ℕ) (h : Head) (at : ℕ) : Type 0 where
  pub k_least : 1 ≤ h.k
  pub k_most : h.k ≤ 4
  pub n_least : h.k + 1 ≤ h.n
  pub n_most : h.n ≤ 8
  pub m_most : h.m ≤ 31
  pub inside : at ≤ length bs

pub head_in : (rule : CardRule) (bs : List ℕ) (h : Head) (at : ℕ) → read_head rule bs ≡ got h at → HeadIn bs h at
head_in rule bs h at e =
    let i = head-is rule bs h at e in
    let k = k-is rule bs _ _ i.k-read in
    let n = n-is rule bs _ _ _ _ i.n-read in
    record {
      k_least = k.0;
      k_most = k.1;
      n_least = n.0;
      n_most = n.1;
      m_most = i.m-byte.most;
      inside = (let a = i.at-is in let b = i.m-byte.inside in omega arith);
    }

-- ---- a reading of masks stays inside the bytes
pub masks-inside : (bs : List ℕ) (m left map at : ℕ) {vs : List ℕ} {at₁ : ℕ} → at ≤ length bs → read_masks bs m left map at ≡ got vs at₁ → at₁ ≤ length bs
unfolding read_masks
masks-inside bs m zero map at h e = let q = got-where e in omega arith
masks-inside bs m (suc left) map at h e =
    let a = field-got _ _ e in
    let b = map-got _ _ a.2 in
    masks-inside bs m left (map / 2) (at + map % 2 * 4) (standing-inside bs at m (map % 2) a.0 h (omega arith) a.1) b.1

pub rows_inside : (bs : List ℕ) (m p left map at : ℕ) {rows : List (List ℕ)} {at₁ : ℕ} → at ≤ length bs → read_rows bs m p left map at ≡ got rows at₁
    → at₁ ≤ length bs
unfolding read_rows
rows_inside bs m p zero map at h e = let q = got-where e in omega arith
rows_inside bs m p (suc left) map at h e =
    let a = next-got _ _ e in
    let b = map-got _ _ a.3 in
    rows_inside bs m p left (map / 2 ^ p) a.1 (masks-inside bs m p map at h a.2) b.1

pub generators-inside : (bs : List ℕ) (at k p m : ℕ) {rows : List (List ℕ)} {at₁ : ℕ} → read_generators bs at k p m ≡ got rows at₁ → at₁ ≤ length bs
unfolding read_generators
generators-inside bs at k p m e =
    let a = field-got _ _ e in
    rows_inside bs m p k a.0 (at + 2) (map_is bs at (k * p) a.0 a.1).inside a.2
