-- The judgement of a check in the published numbers: document 01, "Refused because of the input", 8 and 9. The numbers of all refusals
-- stand in `card/specs/Refusals.antt`; that a failure becomes the refusal of its number is the promise of card's `From<Failure> for Refusal`.
-- Assumes nothing.
use Rattle.std.specs.Prelude.{ℕ, Result, Ok, Err}
use Rattle.orthogonal.specs.declared.Failure.{Failure}
use Rattle.orthogonal.specs.declared.Failure.TheVariants.{OwnDigitUntouched, ErrorTouchedBefore}

-- the published number of each failure
abbrev pub failure_number : Failure → ℕ
failure_number OwnDigitUntouched = 8
failure_number ErrorTouchedBefore = 9

-- the refusal of a judged check, 0 for none
abbrev pub judgement_number : {A : Type 0} → Result A Failure → ℕ
judgement_number (Ok x) = 0
judgement_number (Err failure) = failure_number failure
