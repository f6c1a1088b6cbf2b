-- What is known where a check, and where a whole card, was read.
use Prim.Native.Nat.{ℕ, ◌+◌, ◌-◌, ◌^◌, ◌≤◌}
use mathlib.Core.Path.{◌≡◌, refl, sym, ap, subst, ◌∙◌}
use mathlib.Core.List.{List}
use mathlib.Core.Logic.{⊎_elim}
use native.Mathlib.Omega.{arith}
use lib.ListN.{length}
use lib.Dec.{ltb, eqb}
use borrow.Author.Tests.{eqb-true, ltb-false}
use Rattle.bits.proofs.Cases.{picked}
use Rattle.card.specs.Outcome.Outcome.{accepted, refused}
use Rattle.card.specs.Fields.{Fields, code_of, card_of}
use Rattle.card.specs.Reading.{Read, byte_field, read_head, read_masks, read_generators, judge_after, read_check, read_streams, read_fields, answer, read_under}
use Rattle.card.specs.Reading.Field.{value}
use Rattle.card.specs.Reading.Read.{got, fault}
use Rattle.code.specs.declared.Card.{Card}
use Rattle.card.specs.declared.CardRule.{CardRule}
use Rattle.card.proofs.ReadParts.{not-got, got-what, got-where, field-got, next-got}

-- ---- a check
pub record CheckIs (bs : List ℕ) (c : Card) (i : ℕ) (earlier : List (List ℕ)) (at : ℕ) (vs : List ℕ) (at₁ : ℕ) : Type 0 where
  pub map : ℕ
  pub map_read : byte_field bs at 0 (2 ^ c.p - 1) 5 ≡ value map
  pub masks-read : read_masks bs c.m c.p map (at + 1) ≡ got vs at₁
  pub stands : judge_after c i earlier vs ≡ 0

pub check-is : (bs : List ℕ) (c : Card) (i : ℕ) (earlier : List (List ℕ)) (at : ℕ) {vs : List ℕ} {at₁ : ℕ} → read_check bs c i earlier at ≡ got vs at₁
    → CheckIs bs c i earlier at vs at₁
unfolding read_check
check-is bs c i earlier at {vs} {at₁} e =
    let a = field-got _ _ e in
    let b = next-got _ _ a.2 in
    ⊎_elim
    (λ w.
    let m : b.0 ≡ vs = got-what w.1 in
    record {
      map = a.0;
      map_read = a.1;
      masks-read = b.2 ∙ w.1;
      stands = subst (λ x. judge_after c i earlier x ≡ 0) m (eqb-true _ 0 w.0);
    })
    (λ w. not-got w.1)
    (picked (eqb (judge_after c i earlier b.0) 0) b.3)

-- ---- the whole card
pub record FieldsAre (rule : CardRule) (bs : List ℕ) (f : Fields) (at : ℕ) : Type 0 where
  pub at₀ : ℕ
  pub at₁ : ℕ
  pub head_read : read_head rule bs ≡ got f.head at₀
  pub rows-read : read_generators bs at₀ f.head.k (f.head.n - f.head.k) f.head.m ≡ got f.rows at₁
  pub streams-read : read_streams bs (code_of f.head f.rows) f.head.k 0 at₁ ≡ got f.streams at
  pub at-end : length bs ≤ at

pub fields-are : (rule : CardRule) (bs : List ℕ) (f : Fields) (at : ℕ) → read_fields rule bs ≡ got f at → FieldsAre rule bs f at
unfolding read_fields
fields-are rule bs f at e =
    let a = next-got _ _ e in
    let b = next-got _ _ a.3 in
    let d = next-got _ _ b.3 in
    ⊎_elim
    (λ w. not-got w.1)
    (λ w.
    let q = got-what w.1 in
    let h : a.0 ≡ f.head = ap (λ (x : Fields). x.head) q in
    let r : b.0 ≡ f.rows = ap (λ (x : Fields). x.rows) q in
    let s : d.0 ≡ f.streams = ap (λ (x : Fields). x.streams) q in
    let t : d.1 ≡ at = got-where w.1 in
    record {
      at₀ = a.1;
      at₁ = b.1;
      head_read = a.2 ∙ ap (λ x. got x a.1) h;
      rows-read = subst (λ x. read_generators bs a.1 x.k (x.n - x.k) x.m ≡ got f.rows b.1) h (b.2 ∙ ap (λ x. got x b.1) r);
      streams-read =
          subst (λ x. read_streams bs (code_of f.head x) f.head.k 0 b.1 ≡ got f.streams at) r
          (subst (λ x. read_streams bs (code_of x b.0) x.k 0 b.1 ≡ got f.streams at) h
          (d.2 ∙ ap (λ x. got x d.1) s ∙ ap (λ x. got f.streams x) t));
      at-end = (let z = ltb-false d.1 (length bs) w.0 in omega arith);
    })
    (picked (ltb d.1 (length bs)) d.3)

-- ---- an accepted card
not-accepted : {A : Type 0} {n o : ℕ} → refused n o ≡ accepted → A
not-accepted e = let z : ◌≡◌ {A = ℕ} 0 1 = cc in absurd (omega arith)

pub accepted-read : (rule : CardRule) (bs : List ℕ) → (read_under rule bs).outcome ≡ accepted → (f : Fields) × (at : ℕ) × (read_fields rule bs ≡ got f at) × ((read_under rule bs).card ≡ card_of f)
unfolding read_under
accepted-read rule bs e = go (read_fields rule bs) refl
  where
    go : (r : Read Fields) → read_fields rule bs ≡ r → (f : Fields) × (at : ℕ) × (read_fields rule bs ≡ got f at) × ((answer (read_fields rule bs)).card ≡ card_of f)
    go (got f at) q = (f, at, q, ap (λ r. (answer r).card) q)
    go (fault n o) q = not-accepted (sym (ap (λ r. (answer r).outcome) q) ∙ e)
