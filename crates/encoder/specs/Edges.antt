-- Sessions at the edge of each refusal, for cards with a longer memory and several information streams, which pin when a call is taken: document 01, "Refused
-- because of the state" and "Orders".
-- Assumes nothing.
use Rattle.std.specs.Prelude.{ℕ, ◌≡◌, true, false, replicate}
use Rattle.code.specs.Bench.{Six, Wide}
use Rattle.code.specs.declared.Card.{Card}
use Rattle.encoder.specs.Sending.{lacks_room, tail_out, refused_of, send_of}
use Rattle.encoder.specs.Calls.{takes}
use Rattle.encoder.specs.declared.Session.{Session}

-- a session with n information frames taken, all of them zero, and v tail frames out
abbrev pub after : Card → ℕ → ℕ → Session
after c n v = record { card = c; history = replicate 4 0; sent = n; tail = v }

pub record SendingEdges : Type 0 where
  -- Six, m 20: 15 where sending would leave fewer than twenty of 1,048,576 for the tail
  pub room_left : lacks_room (after Six 1048555 0) ≡ false
  pub no_room_left : lacks_room (after Six 1048556 0) ≡ true
  -- 17 once all twenty tail frames are out
  pub tail_left : tail_out (after Six 1 19) ≡ false
  pub no_tail_left : tail_out (after Six 1 20) ≡ true
  -- Wide, m 2 and three information streams: the last frame that there may be, with every digit
  pub last_taken : takes (after Wide 1048573 0) 7 ≡ true
  -- "sending information 16, 15, 11": the digit of a fourth stream; no room for it; after a tail frame
  pub fourth_digit : send_of (after Wide 1048573 0) 8 ≡ refused_of (after Wide 1048573 0) 11
  pub room_first : send_of (after Wide 1048574 0) 8 ≡ refused_of (after Wide 1048574 0) 15
  pub tail_first : send_of (after Wide 1048574 1) 8 ≡ refused_of (after Wide 1048574 1) 16
