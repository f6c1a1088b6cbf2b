-- A list of sending calls on a session, refused ones included, and what it takes and gives out: document 01, "Refused because of the state".
-- The first call gets the session, each later one what the call before handed back, refused or not.
-- Assumes nothing.
use Rattle.std.specs.Prelude.{ℕ, ◌+◌, Bool, cond, not, ◌||◌, List, [], ◌∷◌, ◌++◌}
use Rattle.encoder.specs.Outcome.{Outcome, frame, refused, SendOutcome}
use Rattle.encoder.specs.Sending.{tail_begun, lacks_room, digit_beyond, tail_out, send_of, send_tail_of}
use Rattle.encoder.specs.declared.Session.{Session}

-- a call with an information frame, or one for a frame of the tail
pub data Call : Type 0 where
  information : ℕ → Call
  tail : Call

-- what a call comes to
unfoldable pub call_of : Session → Call → SendOutcome
call_of s (information f) = send_of s f
call_of s tail = send_tail_of s

-- the frame that a call gives out, if it does
unfoldable pub given_by : Outcome → List ℕ
given_by (frame f) = f ∷ []
given_by (refused n) = []

-- the frames that the calls give out, in their order
unfoldable pub frames_given : Session → List Call → List ℕ
frames_given s [] = []
frames_given s (call ∷ calls) = given_by (call_of s call).outcome ++ frames_given (call_of s call).session calls

-- "A frame is taken if its call meets none of the refusals": 16, 15 and 11
unfoldable pub takes : Session → ℕ → Bool
takes s f = not (tail_begun s || (lacks_room s || digit_beyond s f))

-- the information frames that the calls take, in their order
unfoldable pub information_taken : Session → List Call → List ℕ
information_taken s [] = []
information_taken s (information f ∷ calls) = cond (takes s f) (f ∷ []) [] ++ information_taken (send_of s f).session calls
information_taken s (tail ∷ calls) = information_taken (send_tail_of s).session calls

-- the number of tail calls that do not meet 17
unfoldable pub tail_taken : Session → List Call → ℕ
tail_taken s [] = 0
tail_taken s (information f ∷ calls) = tail_taken (send_of s f).session calls
tail_taken s (tail ∷ calls) = cond (tail_out s) 0 1 + tail_taken (send_tail_of s).session calls

-- the session after the calls
unfoldable pub session_after : Session → List Call → Session
session_after s [] = s
session_after s (call ∷ calls) = session_after (call_of s call).session calls

-- the answers, call by call
unfoldable pub answers : Session → List Call → List Outcome
answers s [] = []
answers s (call ∷ calls) = (call_of s call).outcome ∷ answers (call_of s call).session calls
