-- What the clauses of `read_card`'s promise give for cards of the bench.
use Prim.Native.Nat.{ℕ, zero, suc, ◌+◌, ◌-◌, ◌^◌, ◌≤◌, ◌<◌}
use mathlib.Core.Path.{◌≡◌, refl, sym, ap, ◌∙◌, subst}
use mathlib.Core.List.{List, [], ◌∷◌}
use mathlib.Core.Logic.{⊎_elim}
use native.Mathlib.Omega.{arith}
use lib.ListN.{get_or, get_or-eq_default}
use Rattle.bits.specs.Sums.{sum_below, back}
use Rattle.bits.specs.Digits.{bit}
use Rattle.bits.proofs.Cases.{le-or-lt}
use Rattle.bits.proofs.Sums.{all-at_most, all-at_most-twice}
use Rattle.std.specs.Prelude.{Result, Ok, Err}
use Rattle.code.specs.Bench.{P}
use Rattle.code.specs.Code.{generator}
use Rattle.code.specs.Checks.{count, check_mask, touches_info, touches_by, touches, Orthogonal}
use Rattle.code.specs.declared.Card.{Card}
use Rattle.code.proofs.Touches.{touches-le}
use Rattle.card.specs.Bench.{card_p, stored_p}
use Rattle.card.specs.Fields.{Fields, store, store_rows, store_checks, store_streams, store_counts, card_of}
use Rattle.card.specs.Layout.{bytes4, stands, map_of, layout_masks, optional, layout_head, all_rows, layout_rows, layout_checks, layout_streams, layout, MasksIn, InRanges, Acceptable}
use Rattle.card.specs.Outcome.{outcome_of, card_in, CardOutcome}
use Rattle.card.specs.Outcome.Outcome.{accepted, refused}
use Rattle.card.specs.Promise.{EqualCards, CardPromise}
use Rattle.card.specs.Reading.{read_under, read_card}
use Rattle.card.specs.declared.Fault.{Fault}
use Rattle.card.specs.declared.CardRule.{CardRule}
use Rattle.card.specs.declared.CardRule.TheVariants.{Former, Present}
use Rattle.card.proofs.Acceptance.{reads_back}
use Rattle.card.proofs.RefusedCard.{not-both}
use Rattle.outcomes.proofs.ReadCards.{wrong_t, read-P, read-wrong-T, read-stored-P, read-stated-P}
use Rattle.clients.specs.Cards.{stating, fields_p, stored_fields_p}

-- ---- P is acceptable, shown without reading it

-- the one mask of a row
one-mask : (v : ℕ) → v < 4 → MasksIn 1 1 (v ∷ [])
one-mask v l = record { many = refl; within = below }
  where
    below : (j : ℕ) → get_or (v ∷ []) j 0 < 2 ^ (1 + 1)
    below zero = omega arith
    below (suc j) = omega arith

ranges-P : (bit : ℕ) → bit ≤ 1 → InRanges (stating bit)
ranges-P bit l =
    record {
      k_stands_bit = omega arith;
      n_stands_bit = omega arith;
      number_most = omega arith;
      k_least = omega arith;
      k_most = omega arith;
      k_default = λ e. refl;
      n_least = omega arith;
      n_most = omega arith;
      n_default = λ e. refl;
      m_most = omega arith;
      row_count = refl;
      rows_in = (one-mask 3 (omega arith), tt);
      stream_count = refl;
      streams_in = (
        record {
          many = refl;
          j_least = omega arith;
          j_most = omega arith;
          masks = (one-mask 1 (omega arith), (one-mask 2 (omega arith), tt));
        },
        tt,
      );
    }

-- whether the defaults are stated changes nothing of the card
module _ (stated : ℕ) where
  -- 1 if check q of P touches the error (b, s)
  abbrev by : ℕ → ℕ → ℕ → ℕ
  by q b s = touches (card_of (stating stated)) 0 q b s

  orthogonal-P : Orthogonal (card_of (stating stated)) 0
  unfolding sum_below back bit generator count check_mask touches_info touches_by touches store store_rows store_checks store_streams store_counts card_of
  orthogonal-P =
      record {
        own = λ q l. omega (arith, all-at_most 2 (λ q. 1) (λ q. by q 0 0) refl q l, touches-le (card_of (stating stated)) 0 q 0 0);
        apart = λ b s q r lb ls other lq lr eq er.
            let zq : q ≡ 0 = omega arith in
            let zr : r ≡ 1 = omega arith in
            let h = all-at_most-twice 2 2 (λ b s. by 0 b s + by 1 b s) (λ b s. 1 + (1 - (b + s))) refl b s (omega arith) ls in
            let first : by 0 b s ≡ 1 = rw zq at eq in
            let second : by 1 b s ≡ 1 = rw zr at er in
            let zb : b ≡ 0 = omega arith in
            let zs : s ≡ 0 = omega arith in
            other zb zs;
      }

  orthogonal : (i : ℕ) → i < 1 → Orthogonal (card_of (stating stated)) i
  orthogonal i l = let e : 0 ≡ i = omega arith in subst (λ (i : ℕ). Orthogonal (card_of (stating stated)) i) e orthogonal-P

pub acceptable-P : Acceptable Present card_p fields_p
unfolding bytes4 stands map_of layout_masks optional layout_head all_rows layout_rows layout_checks layout_streams layout
acceptable-P =
    record {
      limits = record { ranges = ranges-P 0 (omega arith); defaults = record { k_left_out = λ e. refl; n_left_out = λ e. refl } };
      orthogonal = orthogonal 0;
      bytes_are = refl;
    }

-- under the former rule nothing is asked of the defaults
pub acceptable-stored-P : Acceptable Former stored_p stored_fields_p
unfolding bytes4 stands map_of layout_masks optional layout_head all_rows layout_rows layout_checks layout_streams layout
acceptable-stored-P = record { limits = record { ranges = ranges-P 1 (omega arith); defaults = tt }; orthogonal = orthogonal 1; bytes_are = refl }

-- ---- the clauses

-- an accepted card is the one that was read
pub accepted-is : (read : Result Card Fault) {c : Card} → outcome_of read ≡ accepted → card_in read ≡ c → read ≡ Ok c
accepted-is (Ok card) v e = ap (λ (c : Card). Ok c) e
accepted-is (Err fault) v e = cc

-- P's bytes, under a rule by which these fields are acceptable: whichever fields the bytes are said to be, they state P
module _ {rule : CardRule} {bytes : List ℕ} {read : Result Card Fault} (promise : CardPromise rule bytes read) where
  pub accepted-P : (f : Fields) → Acceptable rule bytes f → read_under rule bytes ≡ record { outcome = accepted; card = P } → read ≡ Ok P
  accepted-P f acceptable reads =
      let taken = promise.all_these f acceptable in
      let found = promise.only_these taken in
      accepted-is read taken (found.1.card_is ∙ ap (λ (x : CardOutcome). x.card) (sym (reads_back rule bytes found.0 found.1.acceptable) ∙ reads))

-- as P may be stored, under the former rule ..
pub accepted-stored-P : {read : Result Card Fault} → CardPromise Former stored_p read → read ≡ Ok P
accepted-stored-P promise = accepted-P promise stored_fields_p acceptable-stored-P read-stored-P

-- .. and under the present one
module _ {read : Result Card Fault} (promise : CardPromise Present stored_p read) where
  pub refused-stored-P : outcome_of read ≡ refused 18 2
  refused-stored-P = ap (λ (x : CardOutcome). x.outcome) promise.is_read ∙ read-stated-P

  pub outside-P : (f : Fields) → Acceptable Present stored_p f → ⊥
  outside-P f a = not-both (promise.all_these f a) refused-stored-P

-- they are bytes
small-P : (i : ℕ) → get_or card_p i 0 < 256
unfolding sum_below
small-P i =
    ⊎_elim
    (λ l. omega (arith, get_or-eq_default card_p 0 l))
    (λ l. omega (arith, all-at_most 20 (λ i. get_or card_p i 0) (λ i. 255) refl i l))
    (le-or-lt 20 i)

module _ {bytes : List ℕ} {read : Result Card Fault} (promise : CardPromise Present bytes read) (v : outcome_of read ≡ accepted) where
  both : EqualCards bytes card_p
  both = promise.one_form card_p small-P (sym (ap (λ (x : CardOutcome). x.outcome) promise.is_read) ∙ v) (ap (λ (x : CardOutcome). x.outcome) read-P)

  own : card_in read ≡ (read_card bytes).card
  own = ap (λ (x : CardOutcome). x.card) promise.is_read

  pub bytes_of-P : card_in read ≡ P → bytes ≡ card_p
  bytes_of-P e = both.equal_bytes (sym own ∙ e ∙ sym (ap (λ (x : CardOutcome). x.card) read-P))

  pub value-of-P : bytes ≡ card_p → card_in read ≡ P
  value-of-P e = own ∙ both.equal_values e ∙ ap (λ (x : CardOutcome). x.card) read-P

-- no fields are laid out as these bytes within the limits and with orthogonal checks
unacceptable-T : (rule : CardRule) (f : Fields) → Acceptable rule wrong_t f → ⊥
unacceptable-T rule f a = not-both (ap (λ (r : CardOutcome). r.outcome) (reads_back rule wrong_t f a)) (read-wrong-T rule)

pub not-accepted-T : (rule : CardRule) (read : Result Card Fault) → CardPromise rule wrong_t read → outcome_of read ≡ accepted → ⊥
not-accepted-T rule read promise e = let found = promise.only_these e in unacceptable-T rule found.0 found.1.acceptable
