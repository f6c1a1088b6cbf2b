-- A list of receiving calls on a session, with bytes or readings in any mixture and under any card number: document 01, "What comes out as sent".
-- The first call gets the session, each later one what the call before handed back, refused or not. The session is of any kind.
-- Assumes nothing.
use Rattle.std.specs.Prelude.{ℕ, ◌+◌, ◌^◌, min, Bool, cond, ◌&&◌, List, [], ◌∷◌, ◌++◌, map, length, replicate, ltb, eqb}
use Rattle.code.specs.Code.{most_frames}
use Rattle.code.specs.declared.Card.{Card}
use Rattle.receiving.specs.Readings.{faults, frame_read, erased_read}
use Rattle.receiving.specs.Answers.{Given, waiting, frame, refused, Reply}
use Rattle.receiving.specs.Receive.{Circuit, receive_byte_of, receive_readings_of}
use Rattle.receiving.specs.declared.Reading.{Reading}

-- a receiving call: the card number under which its frame was sent, and the frame as a byte or as readings
pub data Call : Type 0 where
  byte : ℕ → ℕ → Call
  readings : ℕ → List Reading → Call

-- what a call hands back
unfoldable pub reply_of : {S : Type 0} → Circuit S → S → Call → Reply S
reply_of x s (byte number f) = receive_byte_of x s number f
reply_of x s (readings number levels) = receive_readings_of x s number levels

-- ---- which frames are taken

-- the card number of a call
unfoldable pub number_in : Call → ℕ
number_in (byte number f) = number
number_in (readings number levels) = number

-- the frame of a call, for n streams, an erased digit as 0
unfoldable pub frame_in : ℕ → Call → ℕ
frame_in n (byte number f) = f
frame_in n (readings number levels) = frame_read levels n

-- which of its digits are erased
unfoldable pub erased_in : ℕ → Call → ℕ
erased_in n (byte number f) = 0
erased_in n (readings number levels) = erased_read levels n

-- neither 11, a digit beyond the n streams, nor 12, one of the first n levels infinite or not a number
unfoldable pub readable : ℕ → Call → Bool
readable n (byte number f) = ltb f (2 ^ n)
readable n (readings number levels) = eqb (faults levels n) 0

-- "a frame is taken if its call meets none of the refusals": neither 14, nor 15, nor 11 or 12, where so many frames were received
unfoldable pub taken : Card → ℕ → Call → Bool
taken c received call = eqb (number_in call) c.number && ltb received most_frames && readable (c.k + c.p) call

-- the calls that are taken, in their order, and of each what `part` says of it for its streams
unfoldable pub taken_parts : {S : Type 0} → (ℕ → Call → ℕ) → Circuit S → S → List Call → List ℕ
taken_parts part x s [] = []
taken_parts part x s (call ∷ calls) =
    cond (taken (x.card s) (x.received s) call) (part ((x.card s).k + (x.card s).p) call ∷ []) []
    ++ taken_parts part x (reply_of x s call).session calls

-- the frames taken, and which of their digits are erased
abbrev pub taken_frames : {S : Type 0} → Circuit S → S → List Call → List ℕ
taken_frames x s calls = taken_parts frame_in x s calls

abbrev pub taken_erased : {S : Type 0} → Circuit S → S → List Call → List ℕ
taken_erased x s calls = taken_parts erased_in x s calls

-- ---- what the calls come to

-- the frame that an answer hands out
unfoldable pub handed_by : Given → List ℕ
handed_by waiting = []
handed_by (frame f) = f ∷ []
handed_by (refused n) = []

-- those that answers hand out
unfoldable pub handed_in : List Given → List ℕ
handed_in [] = []
handed_in (given ∷ later) = handed_by given ++ handed_in later

-- the answers, call by call
unfoldable pub answers : {S : Type 0} → Circuit S → S → List Call → List Given
answers x s [] = []
answers x s (call ∷ calls) = (reply_of x s call).answer ∷ answers x (reply_of x s call).session calls

-- the frames handed out, in the order of the calls
abbrev pub frames_handed_out : {S : Type 0} → Circuit S → S → List Call → List ℕ
frames_handed_out x s calls = handed_in (answers x s calls)

-- the answers to the calls that are taken
unfoldable pub taken_answers : {S : Type 0} → Circuit S → S → List Call → List Given
taken_answers x s [] = []
taken_answers x s (call ∷ calls) =
    cond (taken (x.card s) (x.received s) call) ((reply_of x s call).answer ∷ []) [] ++ taken_answers x (reply_of x s call).session calls

-- the session after the calls
unfoldable pub session_after : {S : Type 0} → Circuit S → S → List Call → S
session_after x s [] = s
session_after x s (call ∷ calls) = session_after x (reply_of x s call).session calls

-- ---- what a rule answers to received frames

-- "the first m frames give 'waiting'; each later one gives the frame m before it", where the rule hands out these for the frames
unfoldable pub answers_by : (Card → List ℕ → List ℕ → List ℕ) → Card → List ℕ → List ℕ → List Given
answers_by rule c frames erased = replicate (min (length frames) c.m) waiting ++ map frame (rule c frames erased)
