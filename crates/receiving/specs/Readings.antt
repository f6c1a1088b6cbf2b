-- What a frame yields that comes as a byte or as readings: document 01, "Readings and bursts", amended for 'erased' by document 02, R-6, and for levels
-- close to zero by R-7.
-- Assumes nothing.
use Rattle.std.specs.Prelude.{ℕ, ◌*◌, ◌^◌, Bool, cond, Option, Some, None, Result, Ok, Err, List, get_or, leb, ltb, ℤ, Float}
use Rattle.std.specs.Float.{nan, inf, fin}
use Rattle.std.specs.Float.Ieee.{up, down}
use Rattle.bits.specs.Sums.{sum_below}
use Rattle.bits.specs.Digits.{from_digits}
use Rattle.card.specs.Refusals.{number_of}
use Rattle.card.specs.declared.Refusal.{Refusal}
use Rattle.receiving.specs.declared.Frame.{Frame}
use Rattle.receiving.specs.declared.Reading.{Reading}
use Rattle.receiving.specs.declared.Reading.TheVariants.{Level, Erased}

-- ---- a reading

-- what a reading yields: a digit, 'erased', or a refusal by its published number
pub data ReadingYield : Type 0 where
  digit : ℕ → ReadingYield
  erased : ReadingYield
  refusal : ℕ → ReadingYield

-- "A level whose magnitude is below 0.25": the magnitude is m · 2 ^ e, and 2 ^ e is `up e` over `down e`
unfoldable pub in_band : ℕ → ℤ → Bool
in_band m e = ltb (4 * (m * up e)) (down e)

-- a level within the band is erased, another above zero is digit 1 and below zero 0; one that is infinite or not a number is refused.
-- `fin true m e` is the number - m · 2 ^ e, and `fin false m e` the number m · 2 ^ e
unfoldable pub digit_of_level : Float → ReadingYield
digit_of_level nan = refusal 12
digit_of_level (inf sign) = refusal 12
digit_of_level (fin sign m e) = cond (in_band m e) erased (digit (cond sign 0 1))

unfoldable pub digit_of : Reading → ReadingYield
digit_of Erased = erased
digit_of (Level level) = digit_of_level level

-- the digit, 0 where there is none: "an erased digit still enters as 0"
unfoldable pub digit_in : ReadingYield → ℕ
digit_in (digit d) = d
digit_in erased = 0
digit_in (refusal n) = 0

-- 1 where the digit is erased
unfoldable pub mark_in : ReadingYield → ℕ
mark_in (digit d) = 0
mark_in erased = 1
mark_in (refusal n) = 0

-- 1 where there is a refusal
unfoldable pub fault_in : ReadingYield → ℕ
fault_in (digit d) = 0
fault_in erased = 0
fault_in (refusal n) = 1

-- reading s of a call, which has eight; beyond them a level that is not a number
abbrev pub reading_at : List Reading → ℕ → Reading
reading_at readings s = get_or readings s (Level nan)

-- ---- the readings of a frame

-- what a frame yields: its digits, an erased one as 0, and a 1 for each that is erased; or a refusal by its published number
pub data Yield : Type 0 where
  yields : ℕ → ℕ → Yield
  refuses : ℕ → Yield

-- how many of the first n are refused
unfoldable pub faults : List Reading → ℕ → ℕ
faults readings n = sum_below n (λ s. fault_in (digit_of (reading_at readings s)))

-- the frame that the first n make, digit s from reading s
unfoldable pub frame_read : List Reading → ℕ → ℕ
frame_read readings n = from_digits n (λ s. digit_in (digit_of (reading_at readings s)))

-- which digits of that frame are erased
unfoldable pub erased_read : List Reading → ℕ → ℕ
erased_read readings n = from_digits n (λ s. mark_in (digit_of (reading_at readings s)))

-- what they yield; those after the n-th are not looked at
unfoldable pub read_frame_of : List Reading → ℕ → Yield
read_frame_of readings n = cond (ltb 0 (faults readings n)) (refuses 12) (yields (frame_read readings n) (erased_read readings n))

-- ---- a byte, and what the program hands back

-- a byte is its frame, with nothing erased, unless it has a digit beyond its n streams
unfoldable pub read_byte_of : ℕ → ℕ → Yield
read_byte_of f n = cond (leb (2 ^ n) f) (refuses 11) (yields f 0)

-- what the program hands back, in the published numbers
abbrev pub yield_of : Result (Option ℕ) Refusal → ReadingYield
yield_of (Ok (Some d)) = digit d
yield_of (Ok None) = erased
yield_of (Err r) = refusal (number_of r)

abbrev pub frame_yield_of : Result Frame Refusal → Yield
frame_yield_of (Ok frame) = yields frame.digits frame.erased
frame_yield_of (Err r) = refuses (number_of r)
