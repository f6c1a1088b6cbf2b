-- What frames yield as they come: a reading, a byte, and the readings of a frame.
use Prim.Native.Nat.{ℕ, ◌^◌, ◌≤◌, ◌<◌}
use mathlib.Core.Path.{◌≡◌, sym, ap, ◌∙◌}
use mathlib.Core.Bool.{Bool, true, false, cond}
use mathlib.Core.List.{List}
use native.Mathlib.Omega.{arith}
use lib.Ieee.{Float, nan, inf, fin}
use borrow.Author.Tests.{lt-ltb, le-ltb, lt-leb, le-leb}
use Rattle.bits.proofs.Sums.{term-le-sum}
use Rattle.receiving.specs.Readings.{ReadingYield, digit, erased, refusal, yields, refuses, in_band, digit_of_level, digit_of, digit_in, fault_in, reading_at, faults, frame_read, erased_read, read_byte_of, read_frame_of}
use Rattle.receiving.specs.declared.Reading.{Reading}
use Rattle.receiving.specs.declared.Reading.TheVariants.{Level, Erased}

-- ---- a reading

-- a reading yields a digit, 'erased', or 12
pub record Told (y : ReadingYield) : Type 0 where
  pub digit_lt : digit_in y < 2
  pub by-twelve : (n : ℕ) → y ≡ refusal n → n ≡ 12

twelve : Told (refusal 12)
unfolding digit_in
twelve = record { digit_lt = omega arith; by-twelve = λ n e. cc }

told-digit : (d : ℕ) → d < 2 → Told (digit d)
unfolding digit_in
told-digit d l = record { digit_lt = l; by-twelve = λ n e. cc }

told-erased : Told erased
unfolding digit_in
told-erased = record { digit_lt = omega arith; by-twelve = λ n e. cc }

told-number : (band sign : Bool) → Told (cond band erased (digit (cond sign 0 1)))
told-number true sign = told-erased
told-number false true = told-digit 0 (omega arith)
told-number false false = told-digit 1 (omega arith)

told-level : (x : Float) → Told (digit_of_level x)
unfolding digit_of_level
told-level nan = twelve
told-level (inf s) = twelve
told-level (fin s m e) = told-number (in_band m e) s

pub told : (r : Reading) → Told (digit_of r)
unfolding digit_of
told Erased = told-erased
told (Level x) = told-level x

-- ---- a byte
module _ (f n : ℕ) where
  pub byte-within : f < 2 ^ n → read_byte_of f n ≡ yields f 0
  unfolding read_byte_of
  byte-within l = rw (lt-leb (2 ^ n) f l)

  pub byte-beyond : 2 ^ n ≤ f → read_byte_of f n ≡ refuses 11
  unfolding read_byte_of
  byte-beyond l = rw (le-leb (2 ^ n) f l)

-- ---- the readings of a frame

module _ (readings : List Reading) (n : ℕ) where
  pub read_whole : faults readings n ≡ 0 → read_frame_of readings n ≡ yields (frame_read readings n) (erased_read readings n)
  unfolding read_frame_of
  read_whole e = rw (le-ltb 0 (faults readings n) (omega arith))

  pub read-faulty : 0 < faults readings n → read_frame_of readings n ≡ refuses 12
  unfolding read_frame_of
  read-faulty l = rw (lt-ltb 0 (faults readings n) l)

  pub read-refused : (s r : ℕ) → s < n → digit_of (reading_at readings s) ≡ refusal r → read_frame_of readings n ≡ refuses r
  unfolding faults fault_in
  read-refused s r l e =
      let f = term-le-sum n (λ s. fault_in (digit_of (reading_at readings s))) s l in
      let one : fault_in (digit_of (reading_at readings s)) ≡ 1 = ap fault_in e in
      read-faulty (omega arith) ∙ ap refuses (sym ((told (reading_at readings s)).by-twelve r e))
