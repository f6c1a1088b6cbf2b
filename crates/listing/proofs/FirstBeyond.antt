-- The first frame with a digit beyond its streams, by the place that `position` finds.
use Prim.Native.Nat.{ℕ, suc, ◌+◌, ◌^◌, ◌<◌, ◌≤◌}
use mathlib.Core.Path.{◌≡◌, refl, ap}
use mathlib.Core.Bool.{false, cond}
use mathlib.Core.Logic.{⊎_elim}
use mathlib.Core.List.{List}
use native.Mathlib.Omega.{arith}
use lib.ListN.{length}
use lib.Dec.{leb, ltb}
use borrow.Author.Tests.{lt-ltb, le-ltb}
use Rattle.std.proofs.Common.{None, Some}
use Rattle.std.specs.List.{position, position_or_len}
use Rattle.std.proofs.lemmas.List.Recursion.{is_position_or_len}
use Rattle.bits.specs.Digits.{any_beyond}
use Rattle.bits.proofs.Cases.{le-or-lt}
use Rattle.outcomes.specs.Listing.{first_beyond}
use Rattle.outcomes.proofs.Beyond.{beyond-none}

-- a place before the end, or none
found : (x l i : ℕ) → cond (ltb x l) (Some x) None ≡ Some i → (i ≡ x) × (x < l)
found x l i e =
    ⊎_elim
    (λ (h : l ≤ x). absurd (let none = le-ltb x l h in let at : cond (ltb x l) (Some x) None ≡ None = rw none in cc))
    (λ (h : x < l). (let some = lt-ltb x l h in let at : cond (ltb x l) (Some x) None ≡ Some x = rw some in cc, h))
    (le-or-lt l x)

none_found : (x l : ℕ) → cond (ltb x l) (Some x) None ≡ None → l ≤ x
none_found x l e =
    ⊎_elim (λ (h : l ≤ x). h)
    (λ (h : x < l). absurd (let some = lt-ltb x l h in let at : cond (ltb x l) (Some x) None ≡ Some x = rw some in cc))
    (le-or-lt l x)

module _ (n : ℕ) where
  first-is : (frames : List ℕ) → first_beyond n frames ≡ position_or_len (leb (2 ^ n)) frames
  unfolding first_beyond
  first-is =
      is_position_or_len (first_beyond n) (leb (2 ^ n)) refl
      (λ f frames. ap (λ (x : ℕ). cond (leb (2 ^ n) f) 0 x) (let one : suc (first_beyond n frames) ≡ 1 + first_beyond n frames = omega arith in one))

  module _ (frames : List ℕ) where
    pub beyond-at : (time : ℕ) → position (leb (2 ^ n)) frames ≡ Some time → (time ≡ first_beyond n frames) × (first_beyond n frames < length frames)
    beyond-at time e =
        let at = found (position_or_len (leb (2 ^ n)) frames) (length frames) time e in
        (omega (arith, at.0, first-is frames), omega (arith, at.1, first-is frames))

    pub beyond-nowhere : position (leb (2 ^ n)) frames ≡ None → any_beyond n frames ≡ false
    beyond-nowhere e =
        beyond-none n frames (omega (arith, none_found (position_or_len (leb (2 ^ n)) frames) (length frames) e, first-is frames))
