-- What reading a card comes to, in the published numbers: document 01, "Refused because of the input".
-- Assumes nothing.
use Rattle.std.specs.Prelude.{ℕ, Result, Ok, Err}
use Rattle.card.specs.Fields.{empty_card}
use Rattle.card.specs.Refusals.{number_of}
use Rattle.code.specs.declared.Card.{Card}
use Rattle.card.specs.declared.Fault.{Fault}

-- accepted, or the refusal's number and byte offset
pub data Outcome : Type 0 where
  accepted : Outcome
  refused : ℕ → ℕ → Outcome

-- of reading a card, whatever it leads to
abbrev pub outcome_of : {A : Type 0} → Result A Fault → Outcome
outcome_of (Ok x) = accepted
outcome_of (Err fault) = refused (number_of fault.refusal) fault.offset

-- the card that was read: the empty card where it is refused
abbrev pub card_in : Result Card Fault → Card
card_in (Ok card) = card
card_in (Err fault) = empty_card

-- the outcome, and the card that was read
pub record CardOutcome : Type 0 where
  pub outcome : Outcome
  pub card : Card

-- what the program hands back, in the published numbers
abbrev pub published : Result Card Fault → CardOutcome
published r = record { outcome = outcome_of r; card = card_in r }
