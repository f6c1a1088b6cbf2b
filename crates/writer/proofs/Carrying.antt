-- What a call with a card's bytes is good for.
use Prim.Native.Nat.{ℕ, zero, suc, ◌≤◌, ◌<◌}
use mathlib.Core.Path.{◌≡◌, refl, sym, ap, ◌∙◌}
use mathlib.Core.List.{List}
use native.Mathlib.Omega.{arith}
use lib.ListN.{length, take}
use lib.IntN.{ℤ, pos, pos-ne-negsuc}
use lib.Signed.{mag}
use Rattle.std.specs.Prelude.{Result}
use Rattle.code.specs.Bench.{P}
use Rattle.code.specs.declared.Card.{Card}
use Rattle.card.specs.Bench.{card_p}
use Rattle.card.specs.Fields.{Fields, card_of}
use Rattle.card.specs.Layout.{longest_card, Acceptable}
use Rattle.card.specs.Outcome.{Outcome, CardOutcome, outcome_of, card_in}
use Rattle.card.specs.Outcome.Outcome.{accepted, refused}
use Rattle.card.specs.Promise.{CardPromise}
use Rattle.card.specs.Reading.{read_card}
use Rattle.card.specs.declared.Fault.{Fault}
use Rattle.card.specs.declared.CardRule.{CardRule}
use Rattle.card.specs.declared.CardRule.TheVariants.{Present}
use Rattle.card.proofs.Acceptance as acceptance
use Rattle.outcomes.specs.Outcome.{BurstOutcome, outcome, refused_of, given_of}
use Rattle.card.specs.Written.{written}
use Rattle.writer.specs.Outcome.{write_under, write_of}
use Rattle.writer.specs.Claims.{ReadsUnder, CarriesOn}
use Rattle.outcomes.proofs.Outcomes.{front-is}
use Rattle.outcomes.proofs.ReadCards.{read-P}
use Rattle.writer.proofs.Answers.{write-refused, write-accepted, write-given}
use Rattle.writer.proofs.Forms.{written-form}

-- ---- an answer above zero
module _ (output : List ℕ) {after : List ℕ} (n : ℕ) (positive : 0 < n) where
  not-refused : (m : ℕ) → outcome (pos n) after ≡ refused_of m output → ⊥
  unfolding refused_of
  not-refused zero e = let z : n ≡ 0 = ap (λ (b : BurstOutcome). mag b.answer) e in omega arith
  not-refused (suc m) e = pos-ne-negsuc n m (ap (λ (b : BurstOutcome). b.answer) e)

  written-bytes : (c : Card) → outcome (pos n) after ≡ write_under c output → take n after ≡ written c
  unfolding write_under
  written-bytes c e = front-is (written c) output e

  read_back : (card : List ℕ) (o : Outcome) (c : Card) → read_card card ≡ record { outcome = o; card = c }
      → outcome (pos n) after ≡ write_of card output → read_card (take n after) ≡ read_card card
  read_back card accepted c e q = ap read_card (written-bytes c (q ∙ write-accepted card output e)) ∙ (written-form c).reads_back Present card e ∙ sym e
  read_back card (refused m at) c e q = absurd (not-refused m (q ∙ write-refused card output (ap (λ (r : CardOutcome). r.outcome) e)))

-- ---- the card that is read
module _ {rule : CardRule} {card : List ℕ} {read : Result Card Fault} (promise : CardPromise rule card read) (e : outcome_of read ≡ accepted) where
  pub read_as : ReadsUnder rule card (card_in read)
  read_as = sym promise.is_read ∙ ap (λ (o : Outcome). record { outcome = o; card = card_in read }) e

  -- a card that is accepted has a written form that is no longer than any card
  pub accepted-length : length (written (card_in read)) ≤ longest_card
  accepted-length = (written-form (card_in read)).length_most rule card read_as

-- ---- the claims of a call
module _ (card output : List ℕ) where
  come-back : (f : Fields) → Acceptable Present card f → length card ≤ length output → write_of card output ≡ given_of card output
  come-back f a room =
      let same = (written-form (card_of f)).one_only card f (record { acceptable = a; card_is = refl }) in
      write-accepted card output (acceptance.reads_back Present card f a)
      ∙ write-given (card_of f) output (omega (arith, ap length same))
      ∙ ap (λ (bytes : List ℕ). given_of bytes output) same

  carries-on : {answer : ℤ} {after : List ℕ} → outcome answer after ≡ write_of card output → CarriesOn card output answer after
  carries-on {after = after} e =
      record {
        reads_back = λ n positive count.
            read_back output n (omega arith) card (read_card card).outcome (read_card card).card refl (ap (λ (z : ℤ). outcome z after) (sym count) ∙ e);
        comes_back = λ f a room. e ∙ come-back f a room;
      }

  -- both clauses of the promise
  pub wrote-card : {answer : ℤ} {after : List ℕ} → outcome answer after ≡ write_of card output
      → (outcome answer after ≡ write_of card output) × CarriesOn card output answer after
  wrote-card e = (e, carries-on e)

-- ---- a client of the first clause, with a short card: what a call wrote of P is read as P
pub carried-on-P : {output after : List ℕ} {answer : ℤ} → CarriesOn card_p output answer after → answer ≡ pos 20 → read_card (take 20 after) ≡ record { outcome = accepted; card = P }
carried-on-P claim count = claim.reads_back 20 (omega arith) count ∙ read-P
