-- A stored card: of at most 2,048 bytes, and accepted under the rule; or why a file holds none.
-- Assumes nothing.
use Rattle.std.specs.Prelude.{ℕ, ◌≤◌, ◌<◌, ◌≡◌, List, [], length, Result, Ok, Err}
use Rattle.code.specs.declared.Card.{Card}
use Rattle.card.specs.declared.CardRule.{CardRule}
use Rattle.card.specs.Promise.{CardPromise}
use Rattle.card.specs.Outcome.{accepted}
use Rattle.card.specs.Reading.{read_under, read_card}
use Rattle.card.specs.Refusals.{number_of}
use Rattle.outcomes.specs.Listing.{too_long_line, refused_line}
use Rattle.listing.specs.Auditing.{not_read_line, fault, came_of}
use Rattle.listing.specs.declared.stored.Why.{Why}
use Rattle.listing.specs.declared.stored.Why.TheVariants.{NotRead, TooLong, Refused}

-- the line that says why
unfoldable pub why_line : Why → List ℕ
why_line NotRead = not_read_line
why_line TooLong = too_long_line
why_line (Refused fault) = refused_line (number_of fault.refusal) fault.offset

-- .. and nothing where there is no reason
unfoldable pub why_not : Result (Unit {0}) Why → List ℕ
why_not (Ok passed) = []
why_not (Err why) = why_line why

-- whether a file passes: the reason is what the audit prints, and there is none where it is read to its end and its card is accepted
pub record Passes (file : Result (List ℕ) (List ℕ)) (r : Result (Unit {0}) Why) : Type 0 where
  pub reason : why_not r ≡ fault file
  pub good_passes : (read_card (came_of file)).outcome ≡ accepted → fault (Ok (came_of file)) ≡ []

-- what reading the bytes of a file came to: they were read, so it isn't that they were not
abbrev pub ReadStored : CardRule → List ℕ → Result Card Why → Type 0
ReadStored rule bytes (Ok card) = (length bytes ≤ 2048) × CardPromise rule bytes (Ok card)
ReadStored rule bytes (Err (Refused fault)) = (length bytes ≤ 2048) × CardPromise rule bytes (Err fault)
ReadStored rule bytes (Err TooLong) = (2048 < length bytes) × ((read_under rule bytes).outcome ≡ accepted → ⊥)
ReadStored rule bytes (Err NotRead) = ⊥
