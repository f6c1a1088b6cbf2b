-- What follows for a session opened with card P from its claims, beside what follows for every receiving session (`receiving`, `Example`).
-- Assumes nothing.
use Rattle.std.specs.Prelude.{◌≡◌, [], ◌∷◌}
use Rattle.receiving.specs.Answers.{waiting, frame, refused}
use Rattle.receiving.specs.Calls.{answers}
use Rattle.receiving.specs.Example.{calls_p}
use Rattle.receiving.specs.declared.Session.{Session}
use Rattle.digit_decoder.specs.Receive.{second_circuit}
use Rattle.digit_decoder.specs.declared.Held.{Held}

-- the answers that the first circuit's session gives, call by call, refusals among them
abbrev pub AnswersOfP : Session Held → Type 0
AnswersOfP s =
    answers second_circuit s calls_p ≡ waiting ∷ frame 1 ∷ refused 14 ∷ refused 11 ∷ frame 0 ∷ refused 14 ∷ refused 12 ∷ frame 1 ∷ []
