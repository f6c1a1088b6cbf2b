-- The notice's third term for a burst: document 01, "What comes out as sent" ("A burst is one call: if it meets none of the refusals above and its
-- input is a whole sent stream, wrong digits included, under the term's condition, it answers the count of information frames, and that many
-- output bytes equal streams 1 to k of them").
-- Assumes nothing.
use Rattle.std.specs.Prelude.{ℕ, ◌+◌, ◌-◌, ◌^◌, ◌≤◌, ◌<◌, ◌≡◌, false, List, length, get_or, take, ℤ, pos}
use Rattle.bits.specs.Digits.{any_beyond}
use Rattle.card.specs.Outcome.Outcome.{accepted}
use Rattle.card.specs.Reading.{read_card}
use Rattle.code.specs.Code.{most_frames}
use Rattle.code.specs.declared.Card.{Card}
use Rattle.majority.specs.Plain.{Correctable}

-- the burst meets none of the refusals: the card's, 15, 13 and 11
pub record Admitted (card input output : List ℕ) : Type 0 where
  pub card_accepted : (read_card card).outcome ≡ accepted
  pub few_enough : length input ≤ most_frames
  pub output_long_enough : length input - (read_card card).card.m ≤ length output
  pub within_streams : any_beyond ((read_card card).card.k + (read_card card).card.p) input ≡ false

-- the input is what was received of the whole stream that the code c sends for the information frames, tail included, and it is correctable
pub record SentAs (c : Card) (info input : List ℕ) : Type 0 where
  pub information : (u : ℕ) → u < length info → get_or info u 0 < 2 ^ c.k
  pub whole : length input ≡ length info + c.m
  pub correctable : Correctable c info input

-- the answer is the count of information frames, and that many output bytes are these
pub record CameOut (info : List ℕ) (answer : ℤ) (output : List ℕ) : Type 0 where
  pub count : answer ≡ pos (length info)
  pub frames : take (length info) output ≡ info

-- document 01's "come out as sent", for the one call of a burst
abbrev pub ComesOutAsSent : List ℕ → List ℕ → List ℕ → ℤ → List ℕ → Type 0
ComesOutAsSent card input output answer after =
    (info : List ℕ) → Admitted card input output → SentAs (read_card card).card info input → CameOut info answer after
