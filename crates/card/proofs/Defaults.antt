-- Fields without a stated default: a field's bit of byte 0, and that fields that state none are those that the card gives back. So the cards of two
-- such fields are equal only if the fields are.
use Prim.Native.Nat.{ℕ, ◌≤◌}
use mathlib.Core.Path.{◌≡◌, sym, ap, ap₂, ◌∙◌}
use mathlib.Core.Logic.{⊎_elim}
use native.Mathlib.Omega.{arith}
use borrow.Author.Tests.{eq-eqb, ne_eqb}
use Rattle.bits.proofs.Cases.{same_or_not}
use Rattle.card.specs.Fields.{Fields, card_of}
use Rattle.card.specs.Layout.{InRanges, StatesNoDefault, InLimits}
use Rattle.card.specs.Written.{stated, fields_of}
use Rattle.card.specs.declared.CardRule.TheVariants.{Present}
use Rattle.card.proofs.FieldsBack.{without_defaults, fields_back}

-- ---- a field's bit

pub stated-most : (default v : ℕ) → stated default v ≤ 1
unfolding stated
stated-most default v = ⊎_elim (λ q. rw (eq-eqb v default q) (omega arith)) (λ q. rw (ne_eqb v default q) (omega arith)) (same_or_not v default)

-- a default is left out, ..
pub default-stated : (default v : ℕ) → v ≡ default → stated default v ≡ 0
unfolding stated
default-stated default v e = rw (eq-eqb v default e)

-- .. and nothing else is
pub stated-default : (default v : ℕ) → stated default v ≡ 0 → v ≡ default
unfolding stated
stated-default default v e = ⊎_elim (λ q. q) (λ q. absurd (omega (arith, rw (ne_eqb v default q) at e))) (same_or_not v default)

stated-other : (default v : ℕ) → (v ≡ default → ⊥) → stated default v ≡ 1
unfolding stated
stated-other default v n = rw (ne_eqb v default n)

-- a bit that is zero where the field has its default, and only there
stands-as : {stands : ℕ} (default v : ℕ) → stands ≤ 1 → (stands ≡ 0 → v ≡ default) → (v ≡ default → stands ≡ 0) → stated default v ≡ stands
stands-as {stands} default v most out plain =
    ⊎_elim (λ e. default-stated default v e ∙ sym (plain e)) (λ n. stated-other default v n ∙ sym (one n)) (same_or_not v default)
  where
    one : (v ≡ default → ⊥) → stands ≡ 1
    one n = ⊎_elim (λ z. absurd (n (out z))) (λ z. omega arith) (same_or_not stands 0)

-- ---- the fields
pub none-changes : (f : Fields) → InRanges f → StatesNoDefault f → without_defaults f ≡ f
none-changes f w s =
    ap₂
    (λ (a b : ℕ). record {
      head = record { k_stands = a; n_stands = b; number = f.head.number; k = f.head.k; n = f.head.n; m = f.head.m };
      rows = f.rows;
      streams = f.streams;
    })
    (stands-as 1 f.head.k w.k_stands_bit w.k_default s.k_left_out)
    (stands-as 2 f.head.n w.n_stands_bit w.n_default s.n_left_out)

pub plain_back : (f : Fields) → InLimits Present f → fields_of (card_of f) ≡ f
plain_back f w = fields_back f w.ranges ∙ none-changes f w.ranges w.defaults

pub same-fields : (f g : Fields) → InLimits Present f → InLimits Present g → card_of f ≡ card_of g → f ≡ g
same-fields f g w v e = sym (plain_back f w) ∙ ap fields_of e ∙ plain_back g v
