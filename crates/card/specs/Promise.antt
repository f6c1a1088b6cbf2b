-- What reading a card promises, under either rule: document 01, "A card is accepted if reading gives no refusal", the notice's "a card is accepted
-- exactly when both hold"; and document 02, R-4, "equal cards, the order of checks included, means equal bytes", and R-13, "No accepted card is then longer
-- than 755 bytes".
-- Assumes nothing.
use Rattle.std.specs.Prelude.{ℕ, Result, ◌≤◌, ◌<◌, ◌≡◌, List, length, get_or}
use Rattle.card.specs.Outcome.{published, outcome_of, card_in}
use Rattle.card.specs.Outcome.Outcome.{accepted}
use Rattle.card.specs.Fields.{Fields, card_of}
use Rattle.card.specs.Layout.{longest_card, Acceptable}
use Rattle.code.specs.Guarantees.{Guarantees}
use Rattle.card.specs.Reading.{read_under, read_card}
use Rattle.code.specs.declared.Card.{Card}
use Rattle.card.specs.declared.Fault.{Fault}
use Rattle.card.specs.declared.CardRule.{CardRule}

-- what the bytes of an accepted card are: fields within the limits whose checks are orthogonal, and the card is theirs
pub record AcceptedAs (rule : CardRule) (bytes : List ℕ) (r : Result Card Fault) (f : Fields) : Type 0 where
  pub acceptable : Acceptable rule bytes f
  pub card_is : card_in r ≡ card_of f

-- of two cards: their values are equal exactly when their bytes are
pub record EqualCards (bytes other : List ℕ) : Type 0 where
  pub equal_bytes : (read_card bytes).card ≡ (read_card other).card → bytes ≡ other
  pub equal_values : bytes ≡ other → (read_card bytes).card ≡ (read_card other).card

pub record CardPromise (rule : CardRule) (bytes : List ℕ) (r : Result Card Fault) : Type 0 where
  -- the verdict, its number and offset, and the card, for every slice
  pub is_read : published r ≡ read_under rule bytes
  -- nobody can get another card accepted ..
  pub only_these : outcome_of r ≡ accepted → (f : Fields) × AcceptedAs rule bytes r f
  -- .. and nobody who brings such a card can be turned down
  pub all_these : (f : Fields) → Acceptable rule bytes f → outcome_of r ≡ accepted
  pub length_most : outcome_of r ≡ accepted → length bytes ≤ longest_card
  pub guaranteed : outcome_of r ≡ accepted → Guarantees (card_in r)
  -- this card and any other, both accepted under the present rule
  pub one_form : (other : List ℕ) → ((i : ℕ) → get_or other i 0 < 256) → (read_card bytes).outcome ≡ accepted → (read_card other).outcome ≡ accepted
      → EqualCards bytes other
