-- What follows for sessions opened with cards P and T (document 01, "Cards on the bench") from their claims: a client of every clause, so that none can
-- be dropped or weakened unnoticed. The session is of any kind x.
-- Assumes nothing.
use Rattle.std.specs.Prelude.{◌≡◌, true, false, List, [], ◌∷◌, ◌++◌, replicate, pos, negsuc}
use Rattle.std.specs.Float.{nan, fin}
use Rattle.receiving.specs.Answers.{waiting, frame}
use Rattle.receiving.specs.Receive.{Circuit}
use Rattle.receiving.specs.Calls.{Call, byte, readings, frames_handed_out, taken_answers}
use Rattle.receiving.specs.declared.Reading.{Reading}
use Rattle.receiving.specs.declared.Reading.TheVariants.{Level, Erased}

-- the readings of a frame of two streams; those after the second are no numbers
abbrev pub pair : Reading → Reading → List Reading
pair first second = first ∷ second ∷ replicate 6 (Level nan)

-- a level above zero
abbrev pub one : Reading
one = Level (fin false 1 (pos 0))

-- "P receives 3, 3, 3, 2", as bytes and readings in turn, the first two frames ..
abbrev pub calls_p_first : List Call
calls_p_first = byte 7 3 ∷ readings 7 (replicate 8 one) ∷ []

-- .. and the last two, with calls between that are refused: another card number, a digit beyond the streams, a level that is not a number
abbrev pub calls_p : List Call
calls_p =
    calls_p_first ++ byte 8 3 ∷ byte 7 4 ∷ byte 7 3 ∷ readings 8 (pair (Level nan) one) ∷ readings 7 (pair (Level nan) one) ∷ readings 7 (pair Erased one) ∷ []

-- 2, 2, 0, 0: two errors in one window, if zeros were sent
abbrev pub calls_p_two_errors : List Call
calls_p_two_errors = byte 7 2 ∷ byte 7 2 ∷ byte 7 0 ∷ byte 7 0 ∷ []

-- 3, 1, 2 was sent for 1, 1: both digits of frame 0 are lost, and the parity digit of the last frame is wrong
abbrev pub calls_p_lost : List Call
calls_p_lost = readings 7 (pair Erased Erased) ∷ byte 7 1 ∷ byte 7 0 ∷ []

pub record ReceivesP {S : Type 0} (x : Circuit S) (s : S) : Type 0 where
  -- one wrong digit of the stream that was sent for 1, 0, 1, and an erased one in its tail: it comes out as sent
  pub comes_out : frames_handed_out x s calls_p ≡ 1 ∷ 0 ∷ 1 ∷ []
  -- beyond the correctable number: the rule's frames
  pub by_rule : frames_handed_out x s calls_p_two_errors ≡ 1 ∷ 0 ∷ 0 ∷ []
  -- and where the digits are lost, s1 alone puts frame 0 right, and then both checks vote
  pub lost_by_rule : frames_handed_out x s calls_p_lost ≡ 1 ∷ 1 ∷ []
  pub answers : taken_answers x s calls_p ≡ waiting ∷ frame 1 ∷ frame 0 ∷ frame 1 ∷ []

-- minus 0.25, which is the digit 0, and the next level towards zero, which lies within the band
abbrev pub minus_quarter : Reading
minus_quarter = Level (fin true 1 (negsuc 1))

abbrev pub faint : Reading
faint = Level (fin true 16777215 (negsuc 25))

-- 3, 1, 2 was sent for 1, 1, as above, and both digits of frame 0 come at this level. Levels within the band stand also in calls that are refused, and
-- where they are not looked at
abbrev pub calls_p_at : Reading → List Call
calls_p_at level =
    readings 8 (replicate 8 faint) ∷ readings 7 (pair faint (Level nan)) ∷ readings 7 (level ∷ level ∷ replicate 6 faint) ∷ byte 7 1 ∷ byte 7 0 ∷ []

-- R-7, at the edge of its band
pub record ReceivesFaintP {S : Type 0} (x : Circuit S) (s : S) : Type 0 where
  -- minus 0.25 is a digit; the next level is erased, and other frames are handed out
  pub quarter_by_rule : frames_handed_out x s (calls_p_at minus_quarter) ≡ 0 ∷ 0 ∷ []
  pub faint_by_rule : frames_handed_out x s (calls_p_at faint) ≡ 1 ∷ 1 ∷ []

-- what T sends for 3, information on both of its streams, with two parity digits wrong
abbrev pub calls_t : List Call
calls_t = byte 10 3 ∷ byte 10 0 ∷ byte 10 0 ∷ []

-- the same with the digit of stream 2 erased, and every other as sent
abbrev pub calls_t_lost : List Call
calls_t_lost = readings 10 (one ∷ Erased ∷ replicate 6 (Level (fin true 1 (pos 0)))) ∷ byte 10 4 ∷ byte 10 4 ∷ []

-- they come out as sent
pub record ReceivesT {S : Type 0} (x : Circuit S) (s : S) : Type 0 where
  pub wrong : frames_handed_out x s calls_t ≡ 3 ∷ []
  pub lost : frames_handed_out x s calls_t_lost ≡ 3 ∷ []
