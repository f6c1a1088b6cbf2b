-- What a receiving call gives, for a session of any kind: the refusals of document 01, in its order, and else what the session's circuit does with the
-- frame.
-- Assumes nothing.
use Rattle.std.specs.Prelude.{ℕ, ◌+◌, min, cond, List, ltb, eqb}
use Rattle.code.specs.Code.{most_frames}
use Rattle.code.specs.Sizes.{sizes_of}
use Rattle.code.specs.declared.Card.{Card}
use Rattle.code.specs.declared.Sizes.{Sizes}
use Rattle.receiving.specs.Readings.{Yield, yields, refuses, read_byte_of, read_frame_of}
use Rattle.receiving.specs.Answers.{Reply, waiting, frame, refused}
use Rattle.receiving.specs.declared.Reading.{Reading}
use Rattle.receiving.specs.declared.Session.{Session}

-- the sizes of a card, held to what the tables have
abbrev pub sizes_in : Card → Sizes
sizes_in c = sizes_of c.k c.p c.m

-- the place of a frame in registers that begin with the frame that is decided next: m after it, less at the start
abbrev pub place_of : ℕ → ℕ → ℕ
place_of received m = min received m

-- a kind of receiving session
pub record Circuit (S : Type 0) : Type 0 where
  pub card : S → Card
  -- how many frames it took
  pub received : S → ℕ
  -- a session that holds no digit, with so many frames counted as received
  pub fresh : Card → ℕ → S
  -- what it does with a frame that is not refused: its digits, an erased one as 0, and a 1 for each that is erased
  pub take : S → ℕ → ℕ → Reply S

-- "the first m frames give 'waiting'; each later one gives the frame m before it": after so many frames received before, where s has the frame already
-- and `hand` hands out
unfoldable pub in_turn : {S : Type 0} → ℕ → ℕ → S → (S → Reply S) → Reply S
in_turn received m s hand = cond (ltb received m) (record { answer = waiting; session = s }) (hand s)

-- a session before its first frame
unfoldable pub open_of : {S : Type 0} → Circuit S → Card → S
open_of x c = x.fresh c 0

-- 14, the frame's card number isn't the session's own; then 15, 1,048,576 frames received; then 11 or 12, the frame's own refusal
unfoldable pub admit_of : ℕ → ℕ → ℕ → Yield → Yield
admit_of own received number y = cond (eqb number own) (cond (ltb received most_frames) y (refuses 15)) (refuses 14)

-- a refused call hands back the number and the former state
unfoldable pub refused_of : {S : Type 0} → S → ℕ → Reply S
refused_of s n = record { answer = refused n; session = s }

-- a frame that is taken, or refused
unfoldable pub settled_of : {S : Type 0} → Circuit S → S → Yield → Reply S
settled_of x s (yields f e) = x.take s f e
settled_of x s (refuses n) = refused_of s n

-- a frame, or its own refusal, under a card number
unfoldable pub receive_of : {S : Type 0} → Circuit S → S → ℕ → Yield → Reply S
receive_of x s number y = settled_of x s (admit_of (x.card s).number (x.received s) number y)

-- a frame as a byte
unfoldable pub receive_byte_of : {S : Type 0} → Circuit S → S → ℕ → ℕ → Reply S
receive_byte_of x s number f = receive_of x s number (read_byte_of f (sizes_in (x.card s)).n)

-- a frame as readings
unfoldable pub receive_readings_of : {S : Type 0} → Circuit S → S → ℕ → List Reading → Reply S
receive_readings_of x s number readings = receive_of x s number (read_frame_of readings (sizes_in (x.card s)).n)

-- ---- the program's sessions

-- what a circuit holds of the frames that it took, and what it does with it, for a card
pub record Holding (H : Type 0) : Type 0 where
  -- before the first frame
  pub nothing : H
  -- with one frame more, put in at a place: its digits, an erased one as 0, and a 1 for each that is erased. Nothing is decided yet
  pub put_in : Card → H → ℕ → ℕ → ℕ → H
  -- the frame that is decided next, as it is handed out
  pub handed_out : Card → H → ℕ
  -- what is held then, for the next frame
  pub moved_on : Card → H → H

module _ {H : Type 0} (k : Holding H) where
  -- the session with the frame f, of which the digits e are erased, and nothing decided yet
  unfoldable pub with_frame : Session H → ℕ → ℕ → Session H
  with_frame s f e = record { card = s.card; held = k.put_in s.card s.held (place_of s.received s.card.m) f e; received = s.received + 1 }

  -- the frame m before the last one handed out
  unfoldable pub handing_of : Session H → Reply (Session H)
  handing_of s =
      record {
        answer = frame (k.handed_out s.card s.held);
        session = record { card = s.card; held = k.moved_on s.card s.held; received = s.received };
      }

  -- a frame that is not refused
  unfoldable pub taken_of : Session H → ℕ → ℕ → Reply (Session H)
  taken_of s f e = in_turn s.received s.card.m (with_frame s f e) handing_of

  -- the kind of session that holds this
  abbrev pub circuit_of : Circuit (Session H)
  circuit_of =
      record {
        card = λ s. s.card;
        received = λ s. s.received;
        fresh = λ c received. record { card = c; held = k.nothing; received = received };
        take = taken_of;
      }
