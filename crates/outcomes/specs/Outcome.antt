-- What a burst comes to: document 01, "Readings and bursts" ("The answer is the count of output frames, or minus the refusal. Only that many
-- output bytes are written.") and "Orders" ("A refused call hands back the number, .. and lent bytes unaltered"); and a card that is written,
-- "as in a burst" (document 02, R-1).
-- Assumes nothing.
use Rattle.std.specs.Prelude.{ℕ, cond, List, ◌++◌, length, drop, ℤ, pos, neg_ℤ, ltb, min, Result, Ok, Err}
use Rattle.card.specs.Outcome.{Outcome, accepted, refused}
use Rattle.card.specs.Refusals.{number_of}
use Rattle.card.specs.declared.Refusal.{Refusal}
use Rattle.code.specs.Code.{most_frames}

-- the answer of a call: the count of what was written, or minus the refusal's number
abbrev pub answer_of : Result ℕ Refusal → ℤ
answer_of (Ok count) = pos count
answer_of (Err refusal) = neg_ℤ (pos (number_of refusal))

-- with a count held to the most frames of a stream
abbrev pub held : Result ℕ Refusal → Result ℕ Refusal
held (Ok count) = Ok (min count most_frames)
held (Err refusal) = Err refusal

-- the answer, and the output bytes as the call leaves them
pub record BurstOutcome : Type 0 where
  pub answer : ℤ
  pub output : List ℕ

abbrev pub outcome : ℤ → List ℕ → BurstOutcome
outcome answer output = record { answer = answer; output = output }

-- minus the refusal's number, and the output as it was
unfoldable pub refused_of : ℕ → List ℕ → BurstOutcome
refused_of n output = outcome (neg_ℤ (pos n)) output

-- the count of these frames, which stand at the front of the output, and the rest of it as it was
unfoldable pub given_of : List ℕ → List ℕ → BurstOutcome
given_of frames output = outcome (pos (length frames)) (frames ++ drop (length frames) output)

-- "13: output too short" for these bytes, else what the call comes to
unfoldable pub with_room : List ℕ → List ℕ → BurstOutcome → BurstOutcome
with_room bytes output otherwise = cond (ltb (length output) (length bytes)) (refused_of 13 output) otherwise

-- these bytes, or 13
unfoldable pub fitted : List ℕ → List ℕ → BurstOutcome
fitted bytes output = with_room bytes output (given_of bytes output)

-- "Bursts: card, then ..": the card's refusal, or what the burst comes to under the card
unfoldable pub under_card : Outcome → BurstOutcome → List ℕ → BurstOutcome
under_card accepted burst output = burst
under_card (refused n offset) burst output = refused_of n output
