-- R-7 at its edges: what levels yield now and what they yielded before, by their patterns as f32, and which readings lie outside the band.
-- Assumes nothing.
use Rattle.std.specs.Prelude.{◌≡◌, [], ◌∷◌, map, replicate}
use Rattle.receiving.specs.Calls.{readings}
use Rattle.receiving.specs.LevelRows.{levels_of, quarters, near_zero, far_out}
use Rattle.receiving.specs.declared.Reading.TheVariants.{Erased}
use Rattle.terms.specs.Terms.{read_now, read_before, Outside}

pub record BandRows : Type 0 where
  -- 0.25, the next level below it and the next above it, and minus each
  pub quarters_now : map read_now quarters ≡ 1 ∷ 2 ∷ 1 ∷ 0 ∷ 2 ∷ 0 ∷ []
  pub quarters_before : map read_before quarters ≡ 1 ∷ 1 ∷ 1 ∷ 0 ∷ 0 ∷ 0 ∷ []
  -- both zeros, the subnormal levels at either end, and minus each: a zero was taken as 0, and was not erased
  pub near_zero_before : map read_before near_zero ≡ 0 ∷ 0 ∷ 1 ∷ 1 ∷ 0 ∷ 0 ∷ []
  -- the largest level and minus it; both infinities; one that is not a number
  pub far_out_before : map read_before far_out ≡ 1 ∷ 0 ∷ 12 ∷ 12 ∷ 12 ∷ []
  -- 0.25 and minus it lie outside, and what comes after the n-th is not asked; their neighbours towards zero lie within
  pub quarter_outside : Outside 1 (readings 7 (levels_of (0x3e80_0000 ∷ 0x3e7f_ffff ∷ [])))
  pub minus_quarter_outside : Outside 1 (readings 7 (levels_of (0xbe80_0000 ∷ 0x3e7f_ffff ∷ [])))
  pub below_a_quarter_within : Outside 1 (readings 7 (levels_of (0x3e7f_ffff ∷ []))) → ⊥
  pub second_within : Outside 2 (readings 7 (levels_of (0x3e80_0000 ∷ 0xbe7f_ffff ∷ []))) → ⊥
  -- 'erased' is no level, and nor are infinities and what is not a number: of sessions that have them something is said too
  pub erased_outside : Outside 8 (readings 7 (replicate 8 Erased))
  pub infinite_outside : Outside 3 (readings 7 (levels_of (0x7f80_0000 ∷ 0xff80_0000 ∷ 0x7fc0_0000 ∷ [])))
