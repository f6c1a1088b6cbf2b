-- What a sending call comes to, in the published numbers: document 01, "Refused because of the input" and "Refused because of the state".
-- Assumes nothing.
use Rattle.std.specs.Prelude.{ℕ, Result, Ok, Err}
use Rattle.card.specs.Refusals.{number_of}
use Rattle.card.specs.declared.Refusal.{Refusal}
use Rattle.encoder.specs.declared.Session.{Session}

-- a frame given out, or the refusal's number
pub data Outcome : Type 0 where
  frame : ℕ → Outcome
  refused : ℕ → Outcome

abbrev pub outcome_of : Result ℕ Refusal → Outcome
outcome_of (Ok f) = frame f
outcome_of (Err refusal) = refused (number_of refusal)

-- the outcome, and the session that the next call gets
pub record SendOutcome : Type 0 where
  pub outcome : Outcome
  pub session : Session

-- what a call answers, and the session that it leaves, in the published numbers
abbrev pub published : Result ℕ Refusal → Session → SendOutcome
published r s = record { outcome = outcome_of r; session = s }
