-- What follows for a session opened with card P (document 01, "Cards on the bench") from each of its claims: a client of every clause, so that none can
-- be dropped or weakened unnoticed.
-- Assumes nothing.
use Rattle.std.specs.Prelude.{◌≡◌, List, [], ◌∷◌, ◌++◌, length}
use Rattle.encoder.specs.Calls.{Call, information, tail, frames_given}
use Rattle.encoder.specs.declared.Session.{Session}

-- "P sends information 1, 0, 1", and a frame with a digit beyond its stream, which is refused ..
abbrev pub calls_p_first : List Call
calls_p_first = information 1 ∷ information 2 ∷ information 0 ∷ information 1 ∷ []

-- .. "and tail", with a tail frame too many and information after the tail, which are refused
abbrev pub calls_p : List Call
calls_p = calls_p_first ++ tail ∷ tail ∷ information 1 ∷ []

pub record SendsP (s : Session) : Type 0 where
  -- "as bytes 3, 2, 3, 2"
  pub stream : frames_given s calls_p ≡ 3 ∷ 2 ∷ 3 ∷ 2 ∷ []
  -- before the tail: so many frames, and these
  pub count : length (frames_given s calls_p_first) ≡ 3
  pub frames : frames_given s calls_p_first ≡ 3 ∷ 2 ∷ 3 ∷ []
