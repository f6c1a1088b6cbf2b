-- What each sending call comes to, for a session of every value: document 01, "Refused because of the state" and "Orders".
-- The refusals' conditions and their order are the document's. The frame is given by registers; Claims says which frames of which stream
-- these are. A card that no reading gave is held to the tables: four information streams, a memory of 31.
-- Assumes nothing.
use Rattle.std.specs.Prelude.{ℕ, ◌+◌, ◌^◌, min, Bool, cond, List, replicate, leb, ltb}
use Rattle.code.specs.Code.{most_frames}
use Rattle.code.specs.Registers.{history_by, frame_by}
use Rattle.code.specs.declared.Card.{Card}
use Rattle.encoder.specs.Outcome.{frame, refused, SendOutcome}
use Rattle.encoder.specs.declared.Session.{Session}

-- a session before its first frame, with n information frames counted as taken
abbrev pub unsent_of : Card → ℕ → Session
unsent_of c n = record { card = c; history = replicate 4 0; sent = n; tail = 0 }

-- the session that is opened with an accepted card
unfoldable pub open_of : Card → Session
open_of c = unsent_of c 0

-- "A refused call hands back the number, the former state"
unfoldable pub refused_of : Session → ℕ → SendOutcome
refused_of s n = record { outcome = refused n; session = s }

-- the history registers with the information frame f taken in
unfoldable pub history_next : Session → ℕ → List ℕ
history_next s f = history_by s.history s.card.k f

-- the frame for the information frame f
unfoldable pub frame_next : Session → ℕ → ℕ
frame_next s f = frame_by s.card.generators (history_next s f) s.card.k s.card.p f

-- that frame, and the session after it, with n information frames taken and v tail frames out
unfoldable pub encoded_of : Session → ℕ → ℕ → ℕ → SendOutcome
encoded_of s f n v =
    record {
      outcome = frame (frame_next s f);
      session = record { card = s.card; history = history_next s f; sent = n; tail = v };
    }

-- 16: "information after the tail has begun"
abbrev pub tail_begun : Session → Bool
tail_begun s = ltb 0 s.tail

-- 15: "sending this one would leave fewer than m of 1,048,576 for the tail"
abbrev pub lacks_room : Session → Bool
lacks_room s = ltb most_frames (s.sent + 1 + min s.card.m 31)

-- 11: "a frame has a digit beyond its streams"
abbrev pub digit_beyond : Session → ℕ → Bool
digit_beyond s f = leb (2 ^ min s.card.k 4) f

-- 17: "all m tail frames are out; at m = 0 the first tail call"
abbrev pub tail_out : Session → Bool
tail_out s = leb (min s.card.m 31) s.tail

-- "sending information 16, 15, 11"
unfoldable pub send_of : Session → ℕ → SendOutcome
send_of s f =
    cond (tail_begun s) (refused_of s 16)
    (cond (lacks_room s) (refused_of s 15) (cond (digit_beyond s f) (refused_of s 11) (encoded_of s f (s.sent + 1) s.tail)))

-- "The tail is m frames of zero information, sent in full."
unfoldable pub send_tail_of : Session → SendOutcome
send_tail_of s = cond (tail_out s) (refused_of s 17) (encoded_of s 0 s.sent (s.tail + 1))
