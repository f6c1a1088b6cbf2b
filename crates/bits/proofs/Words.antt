-- The laws of 32-bit words: shifts, loops that add up masked words or digits at their places, and frames with a
-- digit beyond their streams.
use Prim.Native.Nat.{ℕ, zero, suc, ◌+◌, ◌-◌, ◌*◌, ◌/◌, ◌%◌, ◌^◌, ◌≤◌, ◌<◌}
use mathlib.Core.Path.{◌≡◌, refl, sym, ap, ◌∙◌}
use mathlib.Core.Bool.{Bool, true, false, ◌||◌, or-false, or_assoc}
use mathlib.Core.Logic.{⊎_elim}
use mathlib.Core.List.{List, [], ◌∷◌}
use Rattle.std.specs.List.{fold}
use native.Mathlib.Nat.{eq-or-lt_of_le, le-div_iff_mul-le, div-eq_of_lt, lt_of_lt_of_le, mul_assoc, mul-le-mul_left, mul-mod_left, mul-div_cancel, sub-add_cancel}
use native.Mathlib.Numerals.{add-one}
use native.Mathlib.Omega.{arith}
use lib.Dec.{leb, ltb}
use lib.Pow.{pow_pos, pow-add, pow_mono, shl_exact}
use borrow.Author.Tests.{lt-ltb, le-leb, lt-leb, leb-true, leb-false}
use lib.Bits.{bit_and, bit_or, bit_xor, and_le_l, and_le_r, and_lt, or_lt, or_add_and, xor_lt, xor_zero_r}
use lib.Count.{ones}
use Rattle.bits.specs.Sums.{sum_below, xor_below}
use Rattle.bits.specs.Digits.{bit, from_digits, dot, shift_up, any_beyond}
use Rattle.bits.proofs.Cases.{last-or-below}
use Rattle.bits.proofs.Sums.{sum-add, sum-mod, sum_more, sum_step}
use Rattle.bits.proofs.Digits.{bit-and, bit-xor, bit-mod, bit-shift, digits_lt, ones-sum}

-- a shift by the width or more leaves nothing
pub shift-out : (x a : ℕ) → 32 ≤ a → shift_up x a ≡ 0
unfolding shift_up
shift-out x a h =
    ap (λ (n : ℕ). x * 2 ^ n % 2 ^ 32) (sym (sub-add_cancel h))
    ∙ ap (λ (n : ℕ). x * n % 2 ^ 32) (pow-add 2 (a - 32) 32)
    ∙ ap (λ (n : ℕ). n % 2 ^ 32) (sym (mul_assoc x (2 ^ (a - 32)) (2 ^ 32)))
    ∙ mul-mod_left (x * 2 ^ (a - 32)) (2 ^ 32)

-- the digits of a word moved up: those below are zero, and each stands so many places further
pub bit_up-low : (x l a : ℕ) → a < l → l < 32 → bit (shift_up x l) a ≡ 0
unfolding shift_up bit
bit_up-low x l a h w =
    bit-mod (x * 2 ^ l) 32 a (omega arith)
    ∙ ap (λ (n : ℕ). n / 2 ^ a % 2) (ap (λ (n : ℕ). x * n) (whole ∙ pow-add 2 (l - a) a) ∙ sym (mul_assoc x (2 ^ (l - a)) (2 ^ a)))
    ∙ ap (λ (n : ℕ). n % 2) (mul-div_cancel (x * 2 ^ (l - a)) (pow_pos a))
    ∙ ap (λ (n : ℕ). x * 2 ^ n % 2) more
    ∙ ap (λ (n : ℕ). x * n % 2) (pow-add 2 (l - a - 1) 1)
    ∙ ap (λ (n : ℕ). n % 2) (sym (mul_assoc x (2 ^ (l - a - 1)) 2))
    ∙ mul-mod_left (x * 2 ^ (l - a - 1)) 2
  where
    whole : 2 ^ l ≡ 2 ^ (l - a + a)
    whole = let e : l ≡ l - a + a = omega arith in ap (λ (n : ℕ). 2 ^ n) e

    more : l - a ≡ l - a - 1 + 1
    more = omega arith

pub bit_up : (x l a : ℕ) → l ≤ a → a < 32 → bit (shift_up x l) a ≡ bit x (a - l)
unfolding shift_up
bit_up x l a h w =
    let e : a ≡ l + (a - l) = omega arith in
    bit-mod (x * 2 ^ l) 32 a w
    ∙ ap (bit (x * 2 ^ l)) e
    ∙ sym (bit-shift (x * 2 ^ l) l (a - l))
    ∙ ap (λ (n : ℕ). bit n (a - l)) (mul-div_cancel x (pow_pos l))

-- a digit put at a place within the word keeps its value
pub shift-digit : (d a : ℕ) → d < 2 → a < 32 → shift_up d a ≡ d * 2 ^ a
unfolding shift_up
shift-digit d a h l = shl_exact {a = d} 1 a 32 h (omega arith)

-- ---- a loop that puts digits at their places, the lowest first
module _ (x d i : ℕ) (hx : x < 2 ^ i) (hd : d < 2) (hi : i < 32) where
  pub placed-lt : x + shift_up d i < 2 ^ (i + 1)
  placed-lt = rw (shift-digit d i hd hi) (digits_lt x d i hx hd)

  pub placed-fits : x + shift_up d i < 2 ^ 32
  placed-fits = lt_of_lt_of_le placed-lt (pow_mono {i = i + 1} {j = 32} (omega arith))

  -- one turn
  pub placed-more : (f : ℕ → ℕ) → x ≡ from_digits i f → d ≡ f i → x + shift_up d i ≡ from_digits (i + 1) f
  unfolding from_digits
  placed-more f e q = rw (shift-digit d i hd hi) (sum_step i (λ a. f a * 2 ^ a) e (ap (λ n. n * 2 ^ i) q))

-- ---- a loop that adds up masked words by exclusive or, and counts the ones once
module _ (s x y : ℕ) (hs : s < 2 ^ 32) (hx : x < 2 ^ 32) (hy : y < 2 ^ 32) where
  pub masked-lt : bit_xor s (bit_and x y) < 2 ^ 32
  masked-lt = xor_lt 32 s (bit_and x y) hs (and_lt 32 x y hx hy)

  masked-ones : ones (bit_xor s (bit_and x y)) % 2 ≡ (ones s + dot x y) % 2
  unfolding dot
  masked-ones =
      ap (λ (n : ℕ). n % 2) (ones-sum 32 (bit_xor s (bit_and x y)) masked-lt)
      ∙ sum-mod 32 (λ a. bit (bit_xor s (bit_and x y)) a) (λ a. bit s a + bit x a * bit y a) (λ a l. omega (arith, bit-xor s (bit_and x y) a, bit-and x y a))
      ∙ ap (λ (n : ℕ). n % 2) (sum-add 32 (λ a. bit s a) (λ a. bit x a * bit y a) ∙ ap (λ (n : ℕ). n + sum_below 32 (λ a. bit x a * bit y a)) (sym (ones-sum 32 s hs)))

  -- one turn
  pub masked-step : (f : ℕ → ℕ) (i : ℕ) → ones s % 2 ≡ sum_below i f % 2 → dot x y ≡ f i → ones (bit_xor s (bit_and x y)) % 2 ≡ sum_below (i + 1) f % 2
  masked-step f i e d = masked-ones ∙ omega (arith, e, d, sum_more i f)

-- ---- a loop that adds up words by exclusive or, each taken or not

pub xor-more : (n : ℕ) (f : ℕ → ℕ) → xor_below (n + 1) f ≡ bit_xor (xor_below n f) (f n)
unfolding xor_below
xor-more n f = rw add-one

-- terms that are zero from w on may be left out
pub xor-cut : (n w : ℕ) (f : ℕ → ℕ) → w ≤ n → ((q : ℕ) → w ≤ q → f q ≡ 0) → xor_below n f ≡ xor_below w f
unfolding xor_below
xor-cut zero w f h z = let e : 0 ≡ w = omega arith in ap (λ i. xor_below i f) e
xor-cut (suc n) w f h z =
    ⊎_elim (λ e. ap (λ i. xor_below i f) (sym e))
    (λ l. let k : w ≤ n = omega arith in ap (bit_xor (xor_below n f)) (z n k) ∙ xor_zero_r (xor_below n f) ∙ xor-cut n w f k z)
    (eq-or-lt_of_le h)

-- a mask taken or not has no digit more
pub mask-times-lt : (w g d : ℕ) → g < 2 ^ w → d < 2 → g * d < 2 ^ w
mask-times-lt w g d h l = let m : g * d ≤ g * 1 = mul-le-mul_left g (omega arith) in omega arith

-- and neither have several, added up
pub masks-lt : (w n : ℕ) (g d : ℕ → ℕ) → ((i : ℕ) → g i < 2 ^ w) → ((i : ℕ) → d i < 2) → xor_below n (λ i. g i * d i) < 2 ^ w
unfolding xor_below
masks-lt w zero g d hg hd = pow_pos w
masks-lt w (suc n) g d hg hd = xor_lt w _ _ (masks-lt w n g d hg hd) (mask-times-lt w (g n) (d n) (hg n) (hd n))

-- words of which the union has no 1 have none
pub none_more : (f : ℕ → ℕ) (j all : ℕ) {x : ℕ} → x ≡ f j → (all ≡ 0 → (b : ℕ) → b < j → f b ≡ 0) → bit_or all x ≡ 0 → (b : ℕ) → b < j + 1 → f b ≡ 0
none_more f j all {x} e below z b l =
    let s = or_add_and all x in
    let p = and_le_l all x in
    let q = and_le_r all x in
    let l' : b < suc j = rw add-one at l in
    ⊎_elim (λ (w : b ≡ j). ap f w ∙ sym e ∙ omega arith) (λ w. below (omega arith) b w) (last-or-below l')

-- ---- frames with a digit beyond their streams

-- what is left of a frame above its first n digits tells whether it has more
pub beyond-test : (f n : ℕ) → ltb 0 (f / 2 ^ n) ≡ leb (2 ^ n) f
beyond-test f n = go (leb (2 ^ n) f) refl
  where
    go : (b : Bool) → leb (2 ^ n) f ≡ b → ltb 0 (f / 2 ^ n) ≡ b
    go true e = lt-ltb 0 (f / 2 ^ n) ((le-div_iff_mul-le {k = 2 ^ n} {x = 1} {y = f} (pow_pos n)).1 (omega (arith, leb-true (2 ^ n) f e)))
    go false e = ap (λ (x : ℕ). ltb 0 x) (div-eq_of_lt (leb-false (2 ^ n) f e))

-- an or of frames has a digit beyond exactly if one of them has
or-beyond : (n x y : ℕ) → leb (2 ^ n) (bit_or x y) ≡ (leb (2 ^ n) x || leb (2 ^ n) y)
or-beyond n x y = go (leb (2 ^ n) x) (leb (2 ^ n) y) refl refl
  where
    go : (b d : Bool) → leb (2 ^ n) x ≡ b → leb (2 ^ n) y ≡ d → leb (2 ^ n) (bit_or x y) ≡ (b || d)
    go true d e q = le-leb (2 ^ n) (bit_or x y) (omega (arith, or_add_and x y, and_le_r x y, leb-true (2 ^ n) x e))
    go false true e q = le-leb (2 ^ n) (bit_or x y) (omega (arith, or_add_and x y, and_le_l x y, leb-true (2 ^ n) y q))
    go false false e q = lt-leb (2 ^ n) (bit_or x y) (or_lt n x y (leb-false (2 ^ n) x e) (leb-false (2 ^ n) y q))

-- so has the or of all frames
pub all-beyond : (n all : ℕ) (frames : List ℕ) → leb (2 ^ n) (fold bit_or all frames) ≡ (leb (2 ^ n) all || any_beyond n frames)
unfolding any_beyond
all-beyond n all [] = sym (or-false (leb (2 ^ n) all))
all-beyond n all (f ∷ frames) =
    all-beyond n (bit_or all f) frames
    ∙ ap (λ b. b || any_beyond n frames) (or-beyond n all f)
    ∙ or_assoc (leb (2 ^ n) all) (leb (2 ^ n) f) (any_beyond n frames)

pub any-beyond : (n : ℕ) (frames : List ℕ) → leb (2 ^ n) (fold bit_or 0 frames) ≡ any_beyond n frames
any-beyond n frames = all-beyond n 0 frames ∙ ap (λ b. b || any_beyond n frames) (lt-leb (2 ^ n) 0 (pow_pos n))
