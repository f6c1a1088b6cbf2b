-- What a run of calls on one session comes to: the frames handed out in the front of the output, and their count.
-- It is no call of the document, but what the benchmark measures; its answer is a burst's ("Readings and bursts": the count of output frames, or minus
-- the refusal). It departs from a burst in two points: a call that is refused hands out nothing and the run goes on, and the output has to have
-- room for a frame from each call.
-- Assumes nothing.
use Rattle.std.specs.Prelude.{ℕ, ◌≡◌, cond, List, length, ltb}
use Rattle.card.specs.Refusals.{number_of}
use Rattle.card.specs.declared.Refusal.{Refusal}
use Rattle.code.specs.Code.{most_frames}
use Rattle.outcomes.specs.Outcome.{BurstOutcome, refused_of, given_of}

-- so many calls that hand out these frames: 15 for more than 1,048,576 calls, then 13, "output too short"
unfoldable pub run_of : ℕ → List ℕ → List ℕ → BurstOutcome
run_of calls frames output =
    cond (ltb most_frames calls) (refused_of 15 output)
    (cond (ltb (length output) calls) (refused_of 13 output) (given_of frames output))

-- so many calls with so much room for frames are refused, whatever they hand out
abbrev pub RefusedBy : ℕ → ℕ → Refusal → Type 0
RefusedBy calls room refusal =
    (frames output : List ℕ) → length output ≡ room → run_of calls frames output ≡ refused_of (number_of refusal) output
