-- The published number of each refusal: document 01, "Refused because of the input" and "Refused because of the state"; document 02, R-4, 18.
-- Every definition of this project speaks of a refusal by its number; the program's enum is tied to it here and nowhere else. A check's failure
-- has the number of `orthogonal/specs/Judgements.antt`; `From<Failure> for Refusal` promises the refusal of the same number.
-- Assumes nothing.
use Rattle.std.specs.Prelude.{ℕ}
use Rattle.card.specs.declared.Refusal.{Refusal}
use Rattle.card.specs.declared.Refusal.TheVariants.{CardCutShort, KOutOfRange, NOutOfRange, MemoryAboveLimit, MapBeyondStreams, MaskOutOfRange}
use Rattle.card.specs.declared.Refusal.TheVariants.{CheckCountOutOfRange, OwnDigitUntouched, ErrorTouchedBefore, BytesAfterChecks, DigitBeyondStreams, LevelNotFinite}
use Rattle.card.specs.declared.Refusal.TheVariants.{OutputTooShort, OtherCardNumber, TooManyFrames, TailBegun, TailSent, DefaultStated}

abbrev pub number_of : Refusal → ℕ
number_of CardCutShort = 1
number_of KOutOfRange = 2
number_of NOutOfRange = 3
number_of MemoryAboveLimit = 4
number_of MapBeyondStreams = 5
number_of MaskOutOfRange = 6
number_of CheckCountOutOfRange = 7
number_of OwnDigitUntouched = 8
number_of ErrorTouchedBefore = 9
number_of BytesAfterChecks = 10
number_of DigitBeyondStreams = 11
number_of LevelNotFinite = 12
number_of OutputTooShort = 13
number_of OtherCardNumber = 14
number_of TooManyFrames = 15
number_of TailBegun = 16
number_of TailSent = 17
number_of DefaultStated = 18
