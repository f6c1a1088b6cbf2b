-- What the clauses of the standard cards' promise give.
use Prim.Native.Nat.{ℕ, ◌≤◌}
use mathlib.Core.Path.{◌≡◌, refl, sym, ap, ◌∙◌}
use mathlib.Core.List.{List, [], ◌∷◌, ◌++◌}
use mathlib.Core.Logic.{inl, inr}
use native.Mathlib.Omega.{arith}
use lib.ListN.{length, take, drop, drop_of_length-le}
use lib.IntN.{pos, neg_ℤ}
use Rattle.std.specs.Prelude.{Result, Ok, Err}
use Rattle.std.specs.Result.{result_unwrap_or}
use Rattle.code.specs.Bench.{s, Six}
use Rattle.code.specs.declared.Card.{Card}
use Rattle.card.specs.Bench.{checks, card_p, card_q}
use Rattle.card.specs.Fields.{store, store_rows, store_checks, store_streams, store_counts, card_of}
use Rattle.card.specs.Layout.{bytes4, stands, map_of, layout_masks, optional, layout_head, all_rows, layout_rows, layout_checks, layout_streams, layout}
use Rattle.card.specs.Outcome.{CardOutcome}
use Rattle.card.specs.Promise.{CardPromise}
use Rattle.card.specs.Reading.{read_card}
use Rattle.card.specs.Refusals.{number_of}
use Rattle.card.specs.Written.{stated}
use Rattle.card.specs.declared.CardRule.TheVariants.{Present}
use Rattle.card.specs.declared.Fault.{Fault}
use Rattle.card.specs.declared.Refusal.{Refusal}
use Rattle.card.proofs.Acceptance.{reads_back}
use Rattle.outcomes.specs.Outcome.{BurstOutcome, outcome, answer_of, refused_of, given_of, fitted}
use Rattle.outcomes.proofs.Outcomes.{no-refusal, fitted_short, fitted-given, front-is}
use Rattle.standard.specs.SelfOrthogonal.{last_of, mask_of, fields_by}
use Rattle.standard.specs.Standard.{standard_fields, standard_card, standard_of, StandardCards}
use Rattle.standard.proofs.Answers.{within, outside, count_most}
use Rattle.clients.proofs.CardClauses.{accepted-is}

-- P's bytes and Q's, but for the number
abbrev two : List ℕ
two = 0 ∷ 2 ∷ drop 2 card_p

abbrev three : List ℕ
three = 0 ∷ 3 ∷ drop 2 (card_q (s 0 ∷ s 1 ∷ s 3 ∷ []))

module _ (claims : StandardCards) where
  -- ---- the bytes, by the terms
  by-terms : (J : ℕ) → standard_card J ≡ layout (fields_by (take J (0 ∷ 1 ∷ 3 ∷ 7 ∷ 12 ∷ 20 ∷ 30 ∷ [])))
  unfolding standard_card standard_fields
  by-terms J = ap (λ (t : List ℕ). layout (fields_by (take J t))) claims.terms_are

  bytes_are : (standard_card 2 ≡ two) × (standard_card 3 ≡ three)
  unfolding stated last_of mask_of fields_by bytes4 stands map_of layout_masks optional layout_head all_rows layout_rows layout_checks layout_streams layout checks
  bytes_are = (by-terms 2, by-terms 3)

  -- the card of six
  pub six-is : card_of (standard_fields 6) ≡ Six
  unfolding standard_fields last_of mask_of fields_by store store_rows store_checks store_streams store_counts card_of
  six-is = ap (λ (t : List ℕ). card_of (fields_by (take 6 t))) claims.terms_are

  module _ (output : List ℕ) where
    given : (J : ℕ) → 2 ≤ J → J ≤ 7 → {bytes : List ℕ} → standard_card J ≡ bytes → length bytes ≤ length output → standard_of J output ≡ given_of bytes output
    given J least most {bytes} e room =
        within J output least most
        ∙ ap (λ (l : List ℕ). fitted l output) e
        ∙ fitted-given bytes output room

    pub two-given : 20 ≤ length output → standard_of 2 output ≡ outcome (pos 20) (two ++ drop 20 output)
    unfolding given_of
    two-given room = given 2 (omega arith) (omega arith) bytes_are.0 room

    pub three-given : length output ≡ 25 → standard_of 3 output ≡ outcome (pos 25) three
    unfolding given_of checks
    three-given room =
        given 3 (omega arith) (omega arith) bytes_are.1 (omega arith)
        ∙ ap (λ (rest : List ℕ). outcome (pos 25) (three ++ rest)) (drop_of_length-le output {i = 25} (omega arith))

    -- ---- their lengths
    pub no_room-seven : length output ≡ 44 → standard_of 7 output ≡ outcome (neg_ℤ (pos 13)) output
    unfolding refused_of
    no_room-seven room =
        within 7 output (omega arith) (omega arith)
        ∙ fitted_short (standard_card 7) output (omega (arith, claims.length_is 7 (omega arith) (omega arith)))

    -- ---- all of them, in an output with room for the longest
    module _ (J : ℕ) (room : length output ≡ 45) {after : List ℕ} where
      pub fits : (written : Result ℕ Refusal) → outcome (answer_of written) after ≡ standard_of J output → result_unwrap_or written 0 ≤ 45
      fits (Ok count) e = count_most J output claims e
      fits (Err refusal) e = omega arith

      module _ (least : 2 ≤ J) (most : J ≤ 7) where
        not-refused : (refusal : Refusal) → outcome (answer_of (Err refusal)) after ≡ standard_of J output → ⊥
        unfolding given_of
        not-refused refusal e =
            no-refusal (number_of refusal) (length (standard_card J)) (omega (arith, claims.length_is J least most))
            (ap (λ (b : BurstOutcome). b.answer) (e ∙ given J least most refl (omega (arith, claims.length_is J least most))))

        pub accepted-each : (written : Result ℕ Refusal) → outcome (answer_of written) after ≡ standard_of J output
            → {read : Result Card Fault} → CardPromise Present (take (result_unwrap_or written 0) after) read → read ≡ Ok (card_of (standard_fields J))
        accepted-each (Ok count) e {read} promise =
            let bytes : take count after ≡ standard_card J = front-is (standard_card J) output (e ∙ within J output least most) in
            let as_read = promise.is_read ∙ ap read_card bytes ∙ reads_back Present (standard_card J) (standard_fields J) (claims.acceptable J least most) in
            accepted-is read (ap (λ (r : CardOutcome). r.outcome) as_read) (ap (λ (r : CardOutcome). r.card) as_read)
        accepted-each (Err refusal) e promise = absurd (not-refused refusal e)

-- ---- no card
module _ (output : List ℕ) where
  pub none_of-one : standard_of 1 output ≡ outcome (pos 0) output
  none_of-one = sym (outside 1 output (inl (omega arith)))

  pub none_of-eight : standard_of 8 output ≡ outcome (pos 0) output
  none_of-eight = sym (outside 8 output (inr (omega arith)))
