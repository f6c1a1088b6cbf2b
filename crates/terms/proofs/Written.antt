-- Writing a card, as the page has it.
use Prim.Native.Nat.{ℕ, ◌<◌}
use mathlib.Core.Path.{◌≡◌, refl, ap, ◌∙◌}
use mathlib.Core.List.{List}
use native.Mathlib.Omega.{arith}
use lib.ListN.{length, get_or}
use lib.IntN.{ℤ}
use Rattle.card.specs.Fields.{card_of}
use Rattle.card.specs.declared.CardRule.TheVariants.{Present}
use Rattle.card.proofs.Acceptance.{accepted-fields, reads_back}
use Rattle.outcomes.specs.Outcome.{outcome}
use Rattle.writer.specs.Claims.{CarriesOn}
use Rattle.writer.specs.Outcome.{write_of}
use Rattle.writer.proofs.Answers.{write-refused, write-accepted, write-short}
use Rattle.writer.proofs.Forms.{written-form}
use Rattle.terms.specs.Terms.{CardWritten}
use Rattle.terms.proofs.Told.{refused-told, told-by-room}

-- the written form of an accepted card is the card, so that output too short for one is too short for the other
pub card-written : (card output : List ℕ) → ((i : ℕ) → get_or card i 0 < 256) → {answer : ℤ} {after : List ℕ} → outcome answer after ≡ write_of card output
    → CarriesOn card output answer after → CardWritten card output answer after
card-written card output bytes e claim =
    record {
      by_card = record {
        card_refused = λ number offset r. refused-told output number (e ∙ write-refused card output r);
        told = λ v.
            let a = accepted-fields Present card bytes v in
            let c = card_of a.0 in
            let same = (written-form c).one_only card a.0 (record { acceptable = a.1; card_is = refl }) in
            told-by-room output card (claim.comes_back a.0 a.1)
            (λ l. e ∙ write-accepted card output (reads_back Present card a.0 a.1) ∙ write-short c output (omega (arith, ap length same)));
      };
      reads_back = λ n count. claim.reads_back _ (omega arith) count;
    }
