-- What holds of any list of calls on a session that was opened with the card c: document 01, "The code" and "What comes out as sent".
-- Assumes nothing.
use Rattle.std.specs.Prelude.{◌+◌, ◌≡◌, List, length, take}
use Rattle.code.specs.Code.{sent}
use Rattle.code.specs.declared.Card.{Card}
use Rattle.encoder.specs.Calls.{Call, frames_given, information_taken, tail_taken, session_after}
use Rattle.encoder.specs.declared.Session.{Session}

pub record Claims (c : Card) (s : Session) : Type 0 where
  -- the frames given out are the first ones of what is sent for the information taken
  pub frames_are_sent : (calls : List Call) → frames_given s calls ≡ take (length (frames_given s calls)) (sent c (information_taken s calls))
  -- one for each information frame taken and for each tail call that is not refused
  pub frames_counted : (calls : List Call) → length (frames_given s calls) ≡ length (information_taken s calls) + tail_taken s calls
  -- with the m frames of the tail they are the whole of it: "any number of information frames, none included, then the tail"
  pub stream_is_sent : (calls : List Call) → tail_taken s calls ≡ c.m → frames_given s calls ≡ sent c (information_taken s calls)
  -- the session keeps its card, and counts the information frames and the tail frames that it gave out: by these the next call is taken or refused
  pub card_kept : (calls : List Call) → (session_after s calls).card ≡ c
  pub information_counted : (calls : List Call) → (session_after s calls).sent ≡ length (information_taken s calls)
  pub tail_counted : (calls : List Call) → (session_after s calls).tail ≡ tail_taken s calls
