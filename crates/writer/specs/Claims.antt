-- What the written form of a card is good for: document 02, R-1 ("The unit reads its own output as the same card, and a card that states no
-- default comes back byte for byte", "so the written form of a card is one only") and R-4 ("From here on equal cards, the order of checks
-- included, means equal bytes").
-- Assumes nothing.
use Rattle.std.specs.Prelude.{ℕ, ◌≤◌, ◌<◌, ◌≡◌, List, length, take, ℤ, pos}
use Rattle.code.specs.declared.Card.{Card}
use Rattle.card.specs.Fields.{Fields, card_of}
use Rattle.card.specs.Layout.{longest_card, Acceptable}
use Rattle.card.specs.Written.{written}
use Rattle.card.specs.Outcome.Outcome.{accepted}
use Rattle.card.specs.Reading.{read_under, read_card}
use Rattle.card.specs.declared.CardRule.{CardRule}
use Rattle.card.specs.declared.CardRule.TheVariants.{Present}
use Rattle.outcomes.specs.Outcome.{outcome, given_of}

-- reading the bytes under a rule gives no refusal, and this card
abbrev pub ReadsUnder : CardRule → List ℕ → Card → Type 0
ReadsUnder rule bytes c = read_under rule bytes ≡ record { outcome = accepted; card = c }

abbrev pub ReadsAs : List ℕ → Card → Type 0
ReadsAs bytes c = ReadsUnder Present bytes c

-- the bytes are acceptable under a rule, by fields that state the card c
pub record States (rule : CardRule) (c : Card) (bytes : List ℕ) (f : Fields) : Type 0 where
  pub acceptable : Acceptable rule bytes f
  pub card_is : card_of f ≡ c

-- of a card that some bytes were read as, under either rule: what is written states no default, so it is good under the present one
pub record WrittenForm (c : Card) : Type 0 where
  pub reads_back : (rule : CardRule) (bytes : List ℕ) → ReadsUnder rule bytes c → ReadsAs (written c) c
  -- one such form there is, ..
  pub states_it : (rule : CardRule) (bytes : List ℕ) → ReadsUnder rule bytes c → (f : Fields) × States Present c (written c) f
  -- .. and no other
  pub one_only : (bytes : List ℕ) (f : Fields) → States Present c bytes f → written c ≡ bytes
  pub length_most : (rule : CardRule) (bytes : List ℕ) → ReadsUnder rule bytes c → length (written c) ≤ longest_card
  -- of no acceptable bytes of the card are there fewer
  pub shortest : (rule : CardRule) (bytes : List ℕ) (f : Fields) → States rule c bytes f → length (written c) ≤ length bytes

-- of a call with a card's bytes: the answer, and the output as the call leaves it
pub record CarriesOn (card output : List ℕ) (answer : ℤ) (after : List ℕ) : Type 0 where
  -- an answer above zero is the count of bytes that are read as the same card
  pub reads_back : (n : ℕ) → 0 < n → answer ≡ pos n → read_card (take n after) ≡ read_card card
  -- a card comes back byte for byte, and an output as long as it is room enough
  pub comes_back : (f : Fields) → Acceptable Present card f → length card ≤ length output → outcome answer after ≡ given_of card output
