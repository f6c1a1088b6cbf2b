-- The standard cards, as the page has them: its words for the report's rule are those of `standard`, and what writing one comes to.
use Prim.Native.Nat.{ℕ, zero, suc, ◌+◌, ◌^◌, ◌≤◌}
use mathlib.Core.Path.{◌≡◌, refl, sym, ap, ◌∙◌}
use mathlib.Core.Bool.{cond}
use mathlib.Core.List.{List, [], ◌∷◌, ◌++◌}
use mathlib.Core.Logic.{inl, inr, ⊎_elim}
use lib.ListN.{length, get_or, take}
use lib.Dec.{eqb}
use lib.IntN.{ℤ, pos}
use Rattle.bits.specs.Sums.{sum_below}
use Rattle.bits.proofs.Cases.{le-or-lt}
use Rattle.bits.proofs.Sums.{sum_first}
use Rattle.code.specs.Checks.{check_mask, touches}
use Rattle.card.specs.Fields.{Fields, card_of}
use Rattle.card.specs.Layout.{layout}
use Rattle.card.specs.Outcome.{CardOutcome}
use Rattle.card.specs.Reading.{read_card}
use Rattle.card.specs.Written.{stated}
use Rattle.card.specs.declared.CardRule.TheVariants.{Present}
use Rattle.card.proofs.Acceptance.{reads_back}
use Rattle.outcomes.specs.Outcome.{outcome, fitted}
use Rattle.outcomes.proofs.Outcomes.{fitted_short, fitted-given}
use Rattle.standard.specs.SelfOrthogonal.{last_of, mask_of, fields_by, touched_before, shares, with_term}
use Rattle.standard.specs.SelfOrthogonal as rule
use Rattle.standard.specs.Standard.{standard_terms, standard_fields, standard_card, standard_of, StandardCards}
use Rattle.standard.proofs.Answers.{within, outside}
use Rattle.terms.specs.Terms.{card_of_terms, shared, terms_below, StandardCard}
use Rattle.terms.proofs.Told.{parts, told-by-room}
use Rattle.terms.proofs.Passes.{clashes-are}

-- ---- the rule
mask_is : (terms : List ℕ) → mask_of terms ≡ sum_below (length terms) (λ q. 2 ^ get_or terms q 0)
unfolding mask_of sum_below
mask_is [] = refl
mask_is (a ∷ terms) = ap (λ x. 2 ^ a + x) (mask_is terms) ∙ sym (sum_first (length terms) (λ q. 2 ^ get_or (a ∷ terms) q 0))

fields-are : (terms : List ℕ) → fields_by terms ≡ card_of_terms terms
unfolding stated last_of fields_by
fields-are terms =
    ap
    (λ (v : ℕ). record { head = (card_of_terms terms).head; rows = (v ∷ []) ∷ []; streams = (card_of_terms terms).streams })
    (mask_is terms)

shares-are : (terms : List ℕ) (a : ℕ) → shares (card_of (fields_by (terms ++ (a ∷ [])))) (length terms) ≡ shared terms a
unfolding shares touches touched_before
shares-are terms a =
    let c = card_of (card_of_terms (terms ++ (a ∷ []))) in
    ap (λ (f : Fields). shares (card_of f) (length terms)) (fields-are (terms ++ (a ∷ [])))
    ∙ clashes-are c 0 (check_mask c 0 (length terms)) (touched_before c (length terms))

terms_are : (n : ℕ) → rule.terms_below n ≡ terms_below n
unfolding terms_below rule.terms_below with_term
terms_are zero = refl
terms_are (suc a) =
    ap (λ (terms : List ℕ). with_term terms a) (terms_are a)
    ∙ ap (λ (x : ℕ). cond (eqb x 0) (terms_below a ++ (a ∷ [])) (terms_below a)) (shares-are (terms_below a) a)

-- ---- the cards
abbrev card : ℕ → Fields
card J = card_of_terms (take J (terms_below 32))

card_is : (J : ℕ) → standard_fields J ≡ card J
unfolding standard_fields standard_terms
card_is J = ap (λ (terms : List ℕ). fields_by (take J terms)) (terms_are 32) ∙ fields-are (take J (terms_below 32))

bytes_are : (J : ℕ) → standard_card J ≡ layout (card J)
unfolding standard_card
bytes_are J = ap layout (card_is J)

-- ---- writing one
module _ (claims : StandardCards) (J : ℕ) (output : List ℕ) {answer : ℤ} {after : List ℕ} (e : outcome answer after ≡ standard_of J output) where
  fits : 2 ≤ J → J ≤ 7 → outcome answer after ≡ fitted (layout (card J)) output
  fits least most = e ∙ within J output least most ∙ ap (λ (l : List ℕ). fitted l output) (bytes_are J)

  none : (2 ≤ J → J ≤ 7 → ⊥) → outcome answer after ≡ outcome (pos 0) output
  none n =
      e ∙ sym (outside J output (⊎_elim (λ least. ⊎_elim (λ most. absurd (n least most)) inr (le-or-lt J 7)) inl (le-or-lt 2 J)))

  pub standard-card : StandardCard J output answer after
  unfolding standard_terms
  standard-card =
      record {
        terms_are = sym (terms_are 32) ∙ claims.terms_are;
        told = λ least most.
            told-by-room output (layout (card J))
            (λ l. fits least most ∙ fitted-given (layout (card J)) output l)
            (λ l. fits least most ∙ fitted_short (layout (card J)) output l);
        is_accepted = λ least most.
            ap (λ (l : List ℕ). (read_card l).outcome) (sym (bytes_are J))
            ∙ ap (λ (r : CardOutcome). r.outcome) (reads_back Present (standard_card J) (standard_fields J) (claims.acceptable J least most));
        length_is = λ least most. ap length (sym (bytes_are J)) ∙ claims.length_is J least most;
        no_other = λ n. parts (none n);
      }
