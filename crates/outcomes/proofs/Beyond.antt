-- The first frame that has a digit beyond its streams.
use Prim.Native.Nat.{ℕ, suc, ◌+◌, ◌^◌, ◌≤◌, ◌<◌}
use mathlib.Core.Path.{◌≡◌, refl, ap}
use mathlib.Core.Bool.{Bool, true, false, cond, ◌||◌}
use mathlib.Core.List.{List, [], ◌∷◌}
use native.Mathlib.Omega.{arith}
use lib.ListN.{length, drop, drop_of_length-le}
use lib.Dec.{leb}
use Rattle.bits.specs.Digits.{any_beyond}
use Rattle.outcomes.specs.Listing.{first_beyond}

-- ---- frames of which a loop has passed the first `time`
module _ (n : ℕ) (frames : List ℕ) (time : ℕ) where
  pub beyond-nowhere : length frames ≤ time → first_beyond n frames ≡ time + first_beyond n (drop time frames) → time ≡ first_beyond n frames
  unfolding first_beyond
  beyond-nowhere h e =
      let z : first_beyond n (drop time frames) ≡ 0 = ap (λ l. first_beyond n l) (drop_of_length-le frames h) in
      omega arith

-- ---- whether there is one
some-beyond : (b : Bool) (x y : ℕ) (t : Bool) → cond b 0 (suc x) < suc y → (x < y → t ≡ true) → (b || t) ≡ true
some-beyond true x y t h e = refl
some-beyond false x y t h e = e (omega arith)

none-beyond : (b : Bool) (x y : ℕ) (t : Bool) → suc y ≤ cond b 0 (suc x) → (y ≤ x → t ≡ false) → (b || t) ≡ false
none-beyond true x y t h e = absurd (omega arith)
none-beyond false x y t h e = e (omega arith)

pub beyond-some : (n : ℕ) (frames : List ℕ) → first_beyond n frames < length frames → any_beyond n frames ≡ true
unfolding first_beyond any_beyond
beyond-some n [] h = absurd (omega arith)
beyond-some n (f ∷ frames) h = some-beyond (leb (2 ^ n) f) (first_beyond n frames) (length frames) (any_beyond n frames) h (beyond-some n frames)

pub beyond-none : (n : ℕ) (frames : List ℕ) → length frames ≤ first_beyond n frames → any_beyond n frames ≡ false
unfolding first_beyond any_beyond
beyond-none n [] h = refl
beyond-none n (f ∷ frames) h = none-beyond (leb (2 ^ n) f) (first_beyond n frames) (length frames) (any_beyond n frames) h (beyond-none n frames)
