-- The readings of a frame, one after the other: what those passed so far make of the frame's digits and of its marks.
use Prim.Native.Nat.{ℕ, ◌+◌, ◌^◌, ◌≤◌, ◌<◌}
use mathlib.Core.Path.{◌≡◌, refl, sym, ap, ap₂, ◌∙◌}
use mathlib.Core.List.{List}
use native.Mathlib.Omega.{arith}
use lib.ListN.{length, get_or, take, length-take}
use Rattle.std.proofs.lemmas.List.{get_or-take, get_or_default}
use Rattle.bits.specs.Sums.{sum_below}
use Rattle.bits.specs.Digits.{from_digits, shift_up}
use Rattle.bits.proofs.Sums.{sum_more}
use Rattle.bits.proofs.Words.{shift-digit, placed-lt, placed-more}
use Rattle.receiving.specs.Readings.{digit, erased, digit_of, digit_in, mark_in, fault_in, reading_at, faults, frame_read, erased_read, yields, read_frame_of}
use Rattle.receiving.specs.declared.Reading.{Reading}
use Rattle.receiving.proofs.Yields.{told, read_whole}

-- the first s readings have no refusal, and make these digits and marks
pub record Read (readings : List Reading) (s frame marks : ℕ) : Type 0 where
  pub frame-lt : frame < 2 ^ s
  pub marks-lt : marks < 2 ^ s
  pub frame_is : frame ≡ frame_read readings s
  pub marks-are : marks ≡ erased_read readings s
  pub no-faults : faults readings s ≡ 0

pub read_none : (readings : List Reading) → Read readings 0 0 0
unfolding frame_read erased_read faults from_digits sum_below
read_none readings = record { frame-lt = omega arith; marks-lt = omega arith; frame_is = refl; marks-are = refl; no-faults = refl }

module _ (readings : List Reading) (s frame marks : ℕ) (R : Read readings s frame marks) (hs : s < 32) where
  -- one reading more, which yields a digit d and a mark e
  more : (d e : ℕ) → d ≡ digit_in (digit_of (reading_at readings s)) → e ≡ mark_in (digit_of (reading_at readings s)) → d < 2 → e < 2 → fault_in (digit_of (reading_at readings s)) ≡ 0
      → Read readings (s + 1) (frame + shift_up d s) (marks + shift_up e s)
  unfolding frame_read erased_read faults
  more d e ed ee ld le none =
      record {
        frame-lt = placed-lt frame d s R.frame-lt ld hs;
        marks-lt = placed-lt marks e s R.marks-lt le hs;
        frame_is = placed-more frame d s R.frame-lt ld hs (λ a. digit_in (digit_of (reading_at readings a))) R.frame_is ed;
        marks-are = placed-more marks e s R.marks-lt le hs (λ a. mark_in (digit_of (reading_at readings a))) R.marks-are ee;
        no-faults = sum_more s (λ a. fault_in (digit_of (reading_at readings a))) ∙ ap₂ ◌+◌ R.no-faults none;
      }

  nothing : (x : ℕ) → x + shift_up 0 s ≡ x
  nothing x = ap (λ y. x + y) (shift-digit 0 s (omega arith) hs) ∙ omega arith

  pub digit_lt : (d : ℕ) → digit_of (reading_at readings s) ≡ digit d → d < 2
  unfolding digit_in
  digit_lt d y = rw y at (told (reading_at readings s)).digit_lt

  pub read-digit : (d : ℕ) → digit_of (reading_at readings s) ≡ digit d → Read readings (s + 1) (frame + shift_up d s) marks
  unfolding digit_in mark_in fault_in
  read-digit d y =
      rw nothing at (more d 0 (sym (ap digit_in y)) (sym (ap mark_in y)) (digit_lt d y) (omega arith) (ap fault_in y))

  pub read-erased : digit_of (reading_at readings s) ≡ erased → Read readings (s + 1) frame (marks + shift_up 1 s)
  unfolding digit_in mark_in fault_in
  read-erased y = rw nothing at (more 0 1 (sym (ap digit_in y)) (sym (ap mark_in y)) (omega arith) (omega arith) (ap fault_in y))

-- reading s of those that are looked at, whatever stands for one beyond them
pub looked-at : (readings : List Reading) (n s : ℕ) (beyond : Reading) → s < length (take n readings) → get_or (take n readings) s beyond ≡ reading_at readings s
looked-at readings n s beyond l =
    let m = length-take n readings in
    get_or-take n readings s beyond (omega arith) ∙ get_or_default readings s beyond _ (omega arith)

-- all n have been passed
pub read_all : (readings : List Reading) (n s frame marks : ℕ) → s ≤ n → n ≤ s → Read readings s frame marks → yields frame marks ≡ read_frame_of readings n
read_all readings n s frame marks l h R =
    let e : s ≡ n = omega arith in
    ap₂ yields R.frame_is R.marks-are ∙ sym (read_whole readings s R.no-faults) ∙ ap (read_frame_of readings) e
