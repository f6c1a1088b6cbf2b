-- A card is accepted exactly when its bytes are those of fields within the limits whose checks are orthogonal; what an accepted card guarantees;
-- and the promise of `read_card` from its equation with `read_under`.
use Prim.Native.Nat.{ℕ, ◌≤◌, ◌<◌}
use mathlib.Core.Path.{◌≡◌, sym, ap, subst, ◌∙◌}
use Rattle.std.specs.Prelude.{Result}
use mathlib.Core.List.{List}
use native.Mathlib.Omega.{arith}
use lib.ListN.{length, get_or}
use Rattle.card.specs.Outcome.{CardOutcome, outcome_of, card_in, published}
use Rattle.card.specs.Outcome.Outcome.{accepted}
use Rattle.code.specs.Guarantees.{Guarantees}
use Rattle.card.specs.Fields.{Fields, card_of}
use Rattle.card.specs.Reading.{read_fields, answer, read_under, read_card}
use Rattle.card.specs.Reading.Read.{got}
use Rattle.card.specs.Layout.{layout, longest_card, Acceptable}
use Rattle.card.specs.Promise.{EqualCards, CardPromise}
use Rattle.code.specs.declared.Card.{Card}
use Rattle.card.specs.declared.Fault.{Fault}
use Rattle.card.specs.declared.CardRule.{CardRule}
use Rattle.card.specs.declared.CardRule.TheVariants.{Former, Present}
use Rattle.card.proofs.WholeReading.{accepted-read}
use Rattle.card.proofs.Orthogonality.{standing-truly}
use Rattle.card.proofs.Limits.{read-in, read-standing}
use Rattle.card.proofs.Laid.{read-laid}
use Rattle.card.proofs.ChecksBack.{fields_back}
use Rattle.card.proofs.CardLength.{layout-length}
use Rattle.card.proofs.Guaranteed.{guaranteed}
use Rattle.card.proofs.Defaults.{same-fields}

module _ (rule : CardRule) (bs : List ℕ) where
  -- ---- an accepted card
  pub read-acceptable : (f : Fields) (at : ℕ) → read_fields rule bs ≡ got f at → bs ≡ layout f → Acceptable rule bs f
  read-acceptable f at e laid =
      let w = read-in rule bs f at e in
      record { limits = w; orthogonal = standing-truly f w.ranges (read-standing rule bs f at e); bytes_are = laid }

  pub accepted-fields : ((i : ℕ) → get_or bs i 0 < 256) → (read_under rule bs).outcome ≡ accepted
      → (f : Fields) × Acceptable rule bs f × ((read_under rule bs).card ≡ card_of f)
  accepted-fields bytes e =
      let a = accepted-read rule bs e in
      (a.0, read-acceptable a.0 a.1 a.2 (read-laid bs bytes rule a.0 a.1 a.2), a.3)

  pub accepted-length : ((i : ℕ) → get_or bs i 0 < 256) → (read_under rule bs).outcome ≡ accepted → length bs ≤ longest_card
  accepted-length bytes e =
      let a = accepted-fields bytes e in
      let l = layout-length a.0 a.1.limits.ranges in
      let q = ap length a.1.bytes_are in
      omega arith

  accepted-guarantees : (read_under rule bs).outcome ≡ accepted → Guarantees (read_under rule bs).card
  accepted-guarantees e =
      let a = accepted-read rule bs e in
      let w = (read-in rule bs a.0 a.1 a.2).ranges in
      subst Guarantees (sym a.3) (guaranteed a.0 w (standing-truly a.0 w (read-standing rule bs a.0 a.1 a.2)))

  -- ---- a card that must be accepted
  pub reads_back : (f : Fields) → Acceptable rule bs f → read_under rule bs ≡ record { outcome = accepted; card = card_of f }
  unfolding read_under
  reads_back f a = ap answer (fields_back rule bs f a).1

-- ---- the two rules: what is acceptable under the present one was acceptable before
pub acceptable-before : (bs : List ℕ) (f : Fields) → Acceptable Present bs f → Acceptable Former bs f
acceptable-before bs f a =
    record { limits = record { ranges = a.limits.ranges; defaults = tt }; orthogonal = a.orthogonal; bytes_are = a.bytes_are }

-- ---- two cards
one_form : (bs : List ℕ) → ((i : ℕ) → get_or bs i 0 < 256) → (other : List ℕ) → ((i : ℕ) → get_or other i 0 < 256) → (read_card bs).outcome ≡ accepted
    → (read_card other).outcome ≡ accepted → EqualCards bs other
one_form bs bytes other small e v =
    let own = accepted-fields Present bs bytes e in
    let its = accepted-fields Present other small v in
    record {
      equal_bytes = λ q.
          own.1.bytes_are
          ∙ ap layout (same-fields own.0 its.0 own.1.limits its.1.limits (sym own.2 ∙ q ∙ its.2))
          ∙ sym its.1.bytes_are;
      equal_values = λ q. ap (λ (l : List ℕ). (read_card l).card) q;
    }

-- ---- the promise of `read_card`
module _ (rule : CardRule) (bs : List ℕ) (r : Result Card Fault) (bytes : (i : ℕ) → get_or bs i 0 < 256) (e : published r ≡ read_under rule bs) where
  card-read : card_in r ≡ (read_under rule bs).card
  card-read = ap (λ (x : CardOutcome). x.card) e

  outcome-read : outcome_of r ≡ accepted → (read_under rule bs).outcome ≡ accepted
  outcome-read v = sym (ap (λ (x : CardOutcome). x.outcome) e) ∙ v

  pub card-promise : CardPromise rule bs r
  card-promise =
      record {
        is_read = e;
        only_these = λ v.
            let a = accepted-fields rule bs bytes (outcome-read v) in
            (a.0, record { acceptable = a.1; card_is = card-read ∙ a.2 });
        all_these = λ f a. ap (λ (x : CardOutcome). x.outcome) (e ∙ reads_back rule bs f a);
        length_most = λ v. accepted-length rule bs bytes (outcome-read v);
        guaranteed = λ v. subst Guarantees (sym card-read) (accepted-guarantees rule bs (outcome-read v));
        one_form = one_form bs bytes;
      }
