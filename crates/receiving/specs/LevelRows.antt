-- What levels yield at the edges of the band, by their patterns as f32: document 02, R-7. What they yielded before stands in `terms`.
-- Assumes nothing.
use Rattle.std.specs.Prelude.{ℕ, ◌≡◌, List, [], ◌∷◌, map}
use Rattle.std.specs.Float.{binary32}
use Rattle.std.specs.Float.Ieee.{of_bits}
use Rattle.receiving.specs.Readings.{digit, erased, refusal, digit_of, yields, read_frame_of}
use Rattle.receiving.specs.declared.Reading.{Reading}
use Rattle.receiving.specs.declared.Reading.TheVariants.{Level, Erased}

-- the levels of these patterns
abbrev pub levels_of : List ℕ → List Reading
levels_of patterns = map (λ bits. Level (of_bits binary32 bits)) patterns

-- 0.25, the next level below it and the next above it, and minus each
abbrev pub quarters : List Reading
quarters = levels_of (0x3e80_0000 ∷ 0x3e7f_ffff ∷ 0x3e80_0001 ∷ 0xbe80_0000 ∷ 0xbe7f_ffff ∷ 0xbe80_0001 ∷ [])

-- zero and minus zero; the least subnormal level and the largest, and minus each
abbrev pub near_zero : List Reading
near_zero = levels_of (0x0000_0000 ∷ 0x8000_0000 ∷ 0x0000_0001 ∷ 0x007f_ffff ∷ 0x8000_0001 ∷ 0x807f_ffff ∷ [])

-- the largest level and minus it; both infinities; one that is not a number
abbrev pub far_out : List Reading
far_out = levels_of (0x7f7f_ffff ∷ 0xff7f_ffff ∷ 0x7f80_0000 ∷ 0xff80_0000 ∷ 0x7fc0_0000 ∷ [])

pub record LevelRows : Type 0 where
  -- "0.25 and minus 0.25 themselves are digits"
  pub quarters_yield : map digit_of quarters ≡ digit 1 ∷ erased ∷ digit 1 ∷ digit 0 ∷ erased ∷ digit 0 ∷ []
  -- as the readings of one frame: their digits and marks
  pub quarters_in_a_frame : read_frame_of quarters 6 ≡ yields 0b101 0b10010
  -- "a level whose magnitude is below 0.25 is erased", a zero too
  pub near_zero_yield : map digit_of near_zero ≡ erased ∷ erased ∷ erased ∷ erased ∷ erased ∷ erased ∷ []
  -- "or refusal 12"
  pub far_out_yield : map digit_of far_out ≡ digit 1 ∷ digit 0 ∷ refusal 12 ∷ refusal 12 ∷ refusal 12 ∷ []
  -- the mark 'erased'
  pub erased_yields : digit_of Erased ≡ erased
