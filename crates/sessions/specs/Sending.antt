-- What a run of a sending session comes to, by its calls: what holds of any list of them (`encoder`, `Claims`) holds of these.
-- Assumes nothing.
use Rattle.std.specs.Prelude.{ℕ, ◌+◌, List, ◌++◌, map, length, replicate}
use Rattle.card.specs.Reading.{read_card}
use Rattle.encoder.specs.Calls.{Call, information, tail, frames_given}
use Rattle.encoder.specs.Opening.{session_for}
use Rattle.encoder.specs.declared.Session.{Session}
use Rattle.outcomes.specs.Outcome.{BurstOutcome, under_card}
use Rattle.sessions.specs.Run.{run_of}

-- a call for each information frame of the input, then m for the tail
abbrev pub calls_on : Session → List ℕ → List Call
calls_on s input = map information input ++ replicate s.card.m tail

-- the frames that they hand out
abbrev pub frames_of : Session → List ℕ → List ℕ
frames_of s input = frames_given s (calls_on s input)

-- on an open session
abbrev pub send_on : Session → List ℕ → List ℕ → BurstOutcome
send_on s input output = run_of (length input + s.card.m) (frames_of s input) output

-- with the card's bytes, on the session that opening gives: the card's refusal, or what the calls come to
unfoldable pub session_send_of : List ℕ → List ℕ → List ℕ → BurstOutcome
session_send_of card input output =
    under_card (read_card card).outcome (send_on (session_for (read_card card).outcome (read_card card).card) input output) output
