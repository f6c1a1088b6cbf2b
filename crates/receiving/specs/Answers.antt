-- What a receiving call answers, in the published numbers: document 01, "Checks" and both lists of refusals. The session is of any kind.
-- Assumes nothing.
use Rattle.std.specs.Prelude.{ℕ, Option, Some, None, Result, Ok, Err}
use Rattle.card.specs.Refusals.{number_of}
use Rattle.card.specs.declared.Refusal.{Refusal}

-- 'waiting', a frame handed out, or a refusal by its number
pub data Given : Type 0 where
  waiting : Given
  frame : ℕ → Given
  refused : ℕ → Given

abbrev pub answer_of : Result (Option ℕ) Refusal → Given
answer_of (Ok None) = waiting
answer_of (Ok (Some f)) = frame f
answer_of (Err refusal) = refused (number_of refusal)

-- the answer, and the session for the next call
pub record Reply (S : Type 0) : Type 0 where
  pub answer : Given
  pub session : S

-- what the program hands back, and the session as a call leaves it
abbrev pub published : {S : Type 0} → Result (Option ℕ) Refusal → S → Reply S
published answer session = record { answer = answer_of answer; session = session }
