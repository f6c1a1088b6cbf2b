-- The digits of a list of frames: each is 0 or 1, none stands beyond the last frame, and one frame more changes no earlier one.
use Prim.Native.Nat.{ℕ, ◌≤◌, ◌<◌}
use mathlib.Core.Path.{◌≡◌, ap, ◌∙◌}
use mathlib.Core.List.{List, [], ◌∷◌, ◌++◌}
use lib.ListN.{length, get_or, get_or-eq_default, get_or-append}
use lib.Seq.{get_or_at}
use Rattle.bits.specs.Digits.{bit}
use Rattle.bits.proofs.Digits.{bit_le, bit-of-zero}
use Rattle.code.specs.Code.{digit}

pub digit-le : (frames : List ℕ) (s u : ℕ) → digit frames s u ≤ 1
unfolding digit
digit-le frames s u = bit_le (get_or frames u 0) s

-- after the last frame every digit is zero
pub digit-out : (frames : List ℕ) (s u : ℕ) → length frames ≤ u → digit frames s u ≡ 0
unfolding digit
digit-out frames s u l = ap (λ x. bit x s) (get_or-eq_default frames 0 l) ∙ bit-of-zero s

-- frames that follow change no digit
pub digit-append : (frames more : List ℕ) (s u : ℕ) → u < length frames → digit (frames ++ more) s u ≡ digit frames s u
unfolding digit
digit-append frames more s u l = ap (λ x. bit x s) (get_or-append frames more 0 u l)

-- the digits of the frame that was put last
pub digit-last : (frames : List ℕ) (x s u : ℕ) → length frames ≡ u → digit (frames ++ (x ∷ [])) s u ≡ bit x s
unfolding digit
digit-last frames x s u e = ap (λ y. bit y s) (get_or_at frames x [] 0 u e)
