-- What a run of a receiving session comes to, by its calls: what holds of any list of them (`receiving`, `Claims`) holds of these.
-- Assumes nothing.
use Rattle.std.specs.Prelude.{ℕ, List, map, length}
use Rattle.card.specs.Reading.{read_card}
use Rattle.receiving.specs.Calls.{Call, byte, frames_handed_out}
use Rattle.receiving.specs.Opening.{session_for}
use Rattle.decoder.specs.Receive.{first_circuit}
use Rattle.decoder.specs.declared.Held.{Held}
use Rattle.receiving.specs.declared.Session.{Session}
use Rattle.outcomes.specs.Outcome.{BurstOutcome, under_card}
use Rattle.sessions.specs.Run.{run_of}

-- a call for each frame of the input, under the session's own card number
abbrev pub calls_on : Session Held → List ℕ → List Call
calls_on s input = map (byte s.card.number) input

-- the frames that they hand out
abbrev pub frames_of : Session Held → List ℕ → List ℕ
frames_of s input = frames_handed_out first_circuit s (calls_on s input)

-- on an open session
abbrev pub receive_on : Session Held → List ℕ → List ℕ → BurstOutcome
receive_on s input output = run_of (length input) (frames_of s input) output

-- with the card's bytes, on the session that opening gives: the card's refusal, or what the calls come to
unfoldable pub session_receive_of : List ℕ → List ℕ → List ℕ → BurstOutcome
session_receive_of card input output =
    under_card (read_card card).outcome (receive_on (session_for first_circuit (read_card card)) input output) output
