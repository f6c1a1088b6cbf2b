-- The laws of digits: of halves and shifts, of numbers made of digits, of counts of ones, and of and, or and exclusive or.
use Prim.Native.Nat.{ℕ, zero, suc, ◌+◌, ◌-◌, ◌*◌, ◌/◌, ◌%◌, ◌^◌, ◌≤◌, ◌<◌, min, max}
use mathlib.Core.Path.{◌≡◌, refl, sym, ap, ap₂, ◌∙◌}
use mathlib.Core.Logic.{⊎_elim}
use native.Mathlib.Nat.{mod-lt, zero-lt-suc, div-eq_of_lt, div-lt_iff_lt-mul, lt_of_lt_of_le, zero-div, pow-suc, pow-succ', mul-le-mul_right, mod-eq_of_lt, mul-one, mul_assoc}
use native.Mathlib.Numerals.{add-one, one-add}
use native.Mathlib.Omega.{arith}
use lib.Pow.{pow_pos, pow_mono, shr-shr, high, low, field, mod-mod-pow, mod-pow-add}
use lib.Bits.{bit_and, bit_or, bit_xor, and_shr, and_step, or_shr, or_step, xor_shr, xor_add_and, shifted_half, shifted_even}
use lib.Count.{ones, ones_step}
use Rattle.bits.specs.Sums.{sum_below, xor_below}
use Rattle.bits.specs.Digits.{bit, from_digits}
use Rattle.bits.proofs.Cases.{last-or-below}
use Rattle.bits.proofs.Sums.{sum_same, sum-cong, sum_first, sum-cut, sum-scale}

pub bit_le : (x a : ℕ) → bit x a ≤ 1
unfolding bit
bit_le x a = omega arith

pub bit-lt : (x a : ℕ) → bit x a < 2
unfolding bit
bit-lt x a = omega arith

-- a digit with nothing added, and added to nothing
pub add_none : {x y d : ℕ} → x ≡ d → y ≡ 0 → d < 2 → (x + y) % 2 ≡ d
add_none e z l = omega arith

pub none-add : {x y d : ℕ} → x ≡ 0 → y ≡ d → d < 2 → (x + y) % 2 ≡ d
none-add z e l = omega arith

pub bit-zero : (x : ℕ) → bit x 0 ≡ x % 2
unfolding bit
bit-zero x = omega arith

pub bit-suc : (x a : ℕ) → bit x (suc a) ≡ bit (x / 2) a
unfolding bit
bit-suc x a = ap (λ (n : ℕ). x / 2 ^ n % 2) (sym (one-add a)) ∙ ap (λ (n : ℕ). n % 2) (sym (shr-shr x 1 a))

pub bit-shift : (x b a : ℕ) → bit (x / 2 ^ b) a ≡ bit x (b + a)
unfolding bit
bit-shift x b a = ap (λ n. n % 2) (shr-shr x b a)

pub bit-of-zero : (a : ℕ) → bit 0 a ≡ 0
unfolding bit
bit-of-zero a = rw zero-div

-- a number below 2 ^ n has no digit at n or beyond
pub bit_high : (x n a : ℕ) → x < 2 ^ n → n ≤ a → bit x a ≡ 0
unfolding bit
bit_high x n a h l = ap (λ y. y % 2) (div-eq_of_lt (lt_of_lt_of_le h (pow_mono l)))

-- a remainder modulo 2 ^ w keeps the digits below w
pub bit-mod : (x w a : ℕ) → a < w → bit (x % 2 ^ w) a ≡ bit x a
unfolding bit
bit-mod x w a h =
    let e : (w - a - 1) + 1 + a ≡ w = omega arith in
    ap (λ (n : ℕ). x % 2 ^ n / 2 ^ a % 2) (sym e) ∙ ap (λ (n : ℕ). n % 2) (field x (w - a - 1 + 1) a) ∙ mod-mod-pow (x / 2 ^ a) (w - a - 1) 1

-- a digit at a place stands there and nowhere else
pub place_same : (d p : ℕ) → d < 2 → bit (d * 2 ^ p) p ≡ d
place_same d zero h = bit-zero (d * 1) ∙ omega arith
place_same d (suc p) h = bit-suc (d * 2 ^ suc p) p ∙ ap (λ (x : ℕ). bit x p) (shifted_half d p) ∙ place_same d p h

pub place_other : (d p a : ℕ) → d < 2 → (a ≡ p → ⊥) → bit (d * 2 ^ p) a ≡ 0
place_other d zero zero h n = absurd (n refl)
place_other d zero (suc a) h n = let e : d * 1 / 2 ≡ 0 = omega arith in bit-suc (d * 1) a ∙ ap (λ (x : ℕ). bit x a) e ∙ bit-of-zero a
place_other d (suc p) zero h n = bit-zero (d * 2 ^ suc p) ∙ shifted_even d p
place_other d (suc p) (suc a) h n =
    bit-suc (d * 2 ^ suc p) a ∙ ap (λ (x : ℕ). bit x a) (shifted_half d p) ∙ place_other d p a h (λ e. n (ap suc e))

-- ---- a number that a loop halves until nothing is left of it

-- nothing left, no digit more
pub halved-whole : (x l : ℕ) → x / 2 ^ l ≤ 0 → x < 2 ^ l
halved-whole x l h = omega (arith, (div-lt_iff_lt-mul {k = 2 ^ l} {x = x} {y = 1} (pow_pos l)).0 (omega arith))

-- ---- numbers made of digits

-- a digit more at the high end
pub digits_lt : (x d i : ℕ) → x < 2 ^ i → d < 2 → x + d * 2 ^ i < 2 ^ (i + 1)
digits_lt x d i h l =
    let m : d * 2 ^ i ≤ 1 * 2 ^ i = mul-le-mul_right (2 ^ i) (omega arith) in
    rw add-one (omega (arith, pow-succ' 2 i))

pub from_digits-lt : (n : ℕ) (d : ℕ → ℕ) → ((a : ℕ) → a < n → d a < 2) → from_digits n d < 2 ^ n
unfolding from_digits sum_below
from_digits-lt zero d h = omega arith
from_digits-lt (suc n) d h = rw add-one at (digits_lt (from_digits n d) (d n) n (from_digits-lt n d (λ a l. h a (omega arith))) (h n (omega arith)))

pub bit-from_digits : (n : ℕ) (d : ℕ → ℕ) → ((a : ℕ) → a < n → d a < 2) → (i : ℕ) → i < n → bit (from_digits n d) i ≡ d i
unfolding from_digits sum_below
bit-from_digits zero d h i l = absurd (omega arith)
bit-from_digits (suc n) d h i l =
    let s = from_digits n d in
    let hs : s < 2 ^ n = from_digits-lt n d (λ a w. h a (omega arith)) in
    let e : s + d n * 2 ^ n ≡ d n * 2 ^ n + s = omega arith in
    ap (λ (x : ℕ). bit x i) e
    ∙ ⊎_elim
    (λ (q : i ≡ n). ap (λ (x : ℕ). bit (d n * 2 ^ n + s) x) q ∙ top (d n) s n hs (h n (omega arith)) ∙ ap d (sym q))
    (λ (q : i < n). sym (bit-mod (d n * 2 ^ n + s) n i q) ∙ ap (λ (x : ℕ). bit x i) (low (d n) n hs) ∙ bit-from_digits n d (λ a w. h a (omega arith)) i q)
    (last-or-below l)
  where
    top : (d s n : ℕ) → s < 2 ^ n → d < 2 → bit (d * 2 ^ n + s) n ≡ d
    top d s n h l = unfold bit in (ap (λ (x : ℕ). x % 2) (high d n h) ∙ mod-eq_of_lt l)

-- a number is made of its digits
pub from_digits-bits : (n x : ℕ) → from_digits n (bit x) ≡ x % 2 ^ n
unfolding from_digits sum_below bit
from_digits-bits zero x = omega arith
from_digits-bits (suc n) x =
    let a = from_digits-bits n x in
    let b = mod-pow-add x 1 n in
    let e : x % 2 ^ (1 + n) ≡ x % 2 ^ suc n = rw one-add in
    omega arith

pub from_digits-same : (n : ℕ) (d e : ℕ → ℕ) → ((a : ℕ) → a < n → d a ≡ e a) → from_digits n d ≡ from_digits n e
unfolding from_digits
from_digits-same n d e h = sum_same n _ _ (λ a l. ap (λ x. x * 2 ^ a) (h a l))

-- the lowest digit, and the others a place up
pub from_digits-first : (n : ℕ) (d : ℕ → ℕ) → from_digits (suc n) d ≡ d 0 + from_digits n (λ a. d (suc a)) * 2
unfolding from_digits
from_digits-first n d =
    sum_first n (λ a. d a * 2 ^ a)
    ∙ ap₂ ◌+◌ (mul-one (d 0)) (sum-cong n (λ a. ap (λ x. d (suc a) * x) (pow-suc 2 a) ∙ sym (mul_assoc (d (suc a)) (2 ^ a) 2)) ∙ sum-scale n (λ a. d (suc a) * 2 ^ a) 2)

-- ---- a count of ones

-- a number below 2 ^ k has as many ones as its k digits have
pub ones-sum : (k n : ℕ) → n < 2 ^ k → ones n ≡ sum_below k (λ a. bit n a)
unfolding sum_below ones
ones-sum zero n h = let e : n ≡ 0 = omega arith in ap ones e
ones-sum (suc k) n h =
    ones_step n
    ∙ ap₂ ◌+◌ (sym (bit-zero n)) (ones-sum k (n / 2) (omega (arith, pow-suc 2 k)) ∙ sum-cong k (λ a. sym (bit-suc n a)))
    ∙ sym (sum_first k (λ a. bit n a))

-- a number made of digits has as many ones as these have
pub ones-made : (n : ℕ) (d : ℕ → ℕ) → ((a : ℕ) → a < n → d a < 2) → ones (from_digits n d) ≡ sum_below n d
ones-made n d h = ones-sum n (from_digits n d) (from_digits-lt n d h) ∙ sum_same n _ d (λ a l. bit-from_digits n d h a l)

-- n ones
pub all_ones : (n : ℕ) → from_digits n (λ a. 1) ≡ 2 ^ n - 1
unfolding from_digits sum_below
all_ones zero = omega arith
all_ones (suc n) = omega (arith, all_ones n, pow-succ' 2 n, pow_pos n)

self-lt : (n : ℕ) → n < 2 ^ n
self-lt zero = omega arith
self-lt (suc n) = omega (arith, self-lt n, pow-suc 2 n)

-- the same of a number that has no digit at k or beyond
pub ones-of-digits : (k n : ℕ) → ((a : ℕ) → k ≤ a → bit n a ≡ 0) → ones n ≡ sum_below k (λ a. bit n a)
ones-of-digits k n z =
    ones-sum (max k n) n (lt_of_lt_of_le (self-lt n) (pow_mono {i = n} {j = max k n} (omega arith)))
    ∙ sum-cut (max k n) k (λ a. bit n a) (omega arith) z

-- ---- and, or, exclusive or

min-mul : (x y : ℕ) → x < 2 → y < 2 → min x y ≡ x * y
min-mul zero y h l = omega arith
min-mul (suc zero) y h l = omega arith
min-mul (suc (suc x)) y h l = absurd (omega arith)

pub bit-and : (x y a : ℕ) → bit (bit_and x y) a ≡ bit x a * bit y a
unfolding bit
bit-and x y a =
    ap (λ (n : ℕ). n % 2) (and_shr x y a) ∙ omega (arith, and_step (x / 2 ^ a) (y / 2 ^ a))
    ∙ min-mul (x / 2 ^ a % 2) (y / 2 ^ a % 2) (mod-lt (x / 2 ^ a) (zero-lt-suc 1)) (mod-lt (y / 2 ^ a) (zero-lt-suc 1))

pub bit-or : (x y a : ℕ) → bit (bit_or x y) a ≡ max (bit x a) (bit y a)
unfolding bit
bit-or x y a = let s = or_step (x / 2 ^ a) (y / 2 ^ a) in rw or_shr (omega arith)

pub bit-xor : (x y a : ℕ) → bit (bit_xor x y) a ≡ (bit x a + bit y a) % 2
unfolding bit
bit-xor x y a =
    ap (λ (n : ℕ). n % 2) (xor_shr x y a) ∙ omega (arith, xor_add_and (x / 2 ^ a) (y / 2 ^ a))

-- a mask taken or not
pub bit-times : (g e a : ℕ) → e < 2 → bit (g * e) a ≡ bit g a * e
bit-times g zero a h = let z : g * 0 ≡ 0 = omega arith in ap (λ (x : ℕ). bit x a) z ∙ bit-of-zero a ∙ omega arith
bit-times g (suc zero) a h = let z : g * 1 ≡ g = omega arith in ap (λ (x : ℕ). bit x a) z ∙ omega arith
bit-times g (suc (suc e)) a h = absurd (omega arith)

-- the digits of an exclusive or of words
pub bit-xors : (k : ℕ) (f : ℕ → ℕ) (a : ℕ) → bit (xor_below k f) a ≡ sum_below k (λ i. bit (f i) a) % 2
unfolding sum_below xor_below
bit-xors zero f a = bit-of-zero a
bit-xors (suc k) f a = bit-xor (xor_below k f) (f k) a ∙ omega (arith, bit-xors k f a)

-- and of masks, each taken or not
pub bit-masks : (k : ℕ) (g e : ℕ → ℕ) → ((i : ℕ) → e i < 2) → (a : ℕ) → bit (xor_below k (λ i. g i * e i)) a ≡ sum_below k (λ i. bit (g i) a * e i) % 2
bit-masks k g e h a = bit-xors k (λ i. g i * e i) a ∙ ap (λ (n : ℕ). n % 2) (sum-cong k (λ i. bit-times (g i) (e i) a (h i)))
