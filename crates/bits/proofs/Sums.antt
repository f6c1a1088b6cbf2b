-- The laws of finite sums: congruence, addition, factors, swaps, one index picked out, order, remainders.
use Prim.Native.Nat.{ℕ, zero, suc, ◌+◌, ◌-◌, ◌*◌, ◌%◌, ◌≤◌, ◌<◌, zero-le}
use mathlib.Core.Path.{◌≡◌, refl, sym, ap, ap₂, ◌∙◌, fun_ext}
use mathlib.Core.Logic.{◌≢◌, ⊎_elim}
use native.Mathlib.Nat.{le_refl, zero-mul, suc-mul, mul-zero, add-zero, add-suc, add-le-add, mul_comm, suc-sub-suc, sub-zero}
use native.Mathlib.Numerals.{add-one}
use native.Mathlib.Decide.{dec_lt}
use native.Mathlib.Omega.{arith}
use Rattle.bits.specs.Sums.{sum_below}
use Rattle.bits.proofs.Cases.{last-or-below, digit-zero}

-- ---- congruence

-- equal terms below the bound, equal sums
pub sum_same : (n : ℕ) (f g : ℕ → ℕ) → ((q : ℕ) → q < n → f q ≡ g q) → sum_below n f ≡ sum_below n g
unfolding sum_below
sum_same zero f g h = refl
sum_same (suc n) f g h = ap₂ ◌+◌ (sum_same n f g (λ q l. h q (omega arith))) (h n (le_refl (suc n)))

-- the same with no bound
pub sum-cong : (n : ℕ) {f g : ℕ → ℕ} → ((q : ℕ) → f q ≡ g q) → sum_below n f ≡ sum_below n g
sum-cong n h = ap (sum_below n) (fun_ext h)

-- modulo two
pub sum-mod : (n : ℕ) (f g : ℕ → ℕ) → ((q : ℕ) → q < n → f q % 2 ≡ g q % 2) → sum_below n f % 2 ≡ sum_below n g % 2
unfolding sum_below
sum-mod zero f g h = refl
sum-mod (suc n) f g h =
    let s = sum-mod n f g (λ q l. h q (omega arith)) in
    let t = h n (le_refl (suc n)) in
    omega arith

-- ---- one term more

pub sum_more : (n : ℕ) (f : ℕ → ℕ) → sum_below (n + 1) f ≡ sum_below n f + f n
unfolding sum_below
sum_more n f = rw add-one

-- one turn of a loop that sums, and its end
pub sum_step : (n : ℕ) (f : ℕ → ℕ) {s r : ℕ} → s ≡ sum_below n f → r ≡ f n → s + r ≡ sum_below (n + 1) f
sum_step n f e q = rw (sum_more n f, e, q)

-- the first term apart
pub sum_first : (n : ℕ) (f : ℕ → ℕ) → sum_below (suc n) f ≡ f 0 + sum_below n (λ q. f (suc q))
unfolding sum_below
sum_first zero f = omega arith
sum_first (suc n) f = let r = sum_first n f in omega arith

-- ---- zeros

pub sum_of-zeros : (n : ℕ) → sum_below n (λ q. 0) ≡ 0
unfolding sum_below
sum_of-zeros zero = refl
sum_of-zeros (suc n) = omega (arith, sum_of-zeros n)

pub sum-none : (n : ℕ) (f : ℕ → ℕ) → ((q : ℕ) → q < n → f q ≡ 0) → sum_below n f ≡ 0
sum-none n f h = sum_same n f (λ q. 0) h ∙ sum_of-zeros n

-- every term of a sum that is zero
pub none_of-sum : (n : ℕ) (f : ℕ → ℕ) → sum_below n f ≡ 0 → (q : ℕ) → q < n → f q ≡ 0
unfolding sum_below
none_of-sum zero f e q h = absurd (omega arith)
none_of-sum (suc n) f e q h = ⊎_elim (λ w. ap f w ∙ (omega arith)) (λ l. none_of-sum n f (omega arith) q l) (last-or-below h)

-- a bound at each of n places, by a sum that can be computed
pub all-at_most : (n : ℕ) (f g : ℕ → ℕ) → sum_below n (λ q. f q - g q) ≡ 0 → (q : ℕ) → q < n → f q ≤ g q
all-at_most n f g e q l = let z = none_of-sum n _ e q l in omega arith

-- the same at each of n times m places
pub all-at_most-twice : (n m : ℕ) (f g : ℕ → ℕ → ℕ) → sum_below n (λ q. sum_below m (λ r. f q r - g q r)) ≡ 0 → (q r : ℕ) → q < n → r < m → f q r ≤ g q r
all-at_most-twice n m f g e q r l k = all-at_most m _ _ (none_of-sum n _ e q l) r k

-- ---- addition and factors

pub sum-add : (n : ℕ) (f g : ℕ → ℕ) → sum_below n (λ q. f q + g q) ≡ sum_below n f + sum_below n g
unfolding sum_below
sum-add zero f g = refl
sum-add (suc n) f g = omega (arith, sum-add n f g)

-- a constant factor, on the right and on the left
pub sum-scale : (n : ℕ) (f : ℕ → ℕ) (c : ℕ) → sum_below n (λ q. f q * c) ≡ sum_below n f * c
unfolding sum_below
sum-scale zero f c = sym (zero-mul c)
sum-scale (suc n) f c = omega (arith, sum-scale n f c)

pub sum-scale-left : (n : ℕ) (f : ℕ → ℕ) (c : ℕ) → sum_below n (λ q. c * f q) ≡ c * sum_below n f
unfolding sum_below
sum-scale-left zero f c = sym (mul-zero c)
sum-scale-left (suc n) f c = omega (arith, sum-scale-left n f c)

pub sum-const : (n c : ℕ) → sum_below n (λ q. c) ≡ n * c
unfolding sum_below
sum-const zero c = sym (zero-mul c)
sum-const (suc n) c = omega (arith, sum-const n c)

-- modulo two a factor may be replaced
pub mul_mod_left : (c a b : ℕ) → a % 2 ≡ b % 2 → c * a % 2 ≡ c * b % 2
mul_mod_left zero a b h = simp zero-mul
mul_mod_left (suc c) a b h = let r = mul_mod_left c a b h in omega (arith, suc-mul c a, suc-mul c b)

pub mul_mod_right : (a b c : ℕ) → a % 2 ≡ b % 2 → a * c % 2 ≡ b * c % 2
mul_mod_right a b c h = rw (mul_comm a c, mul_comm b c) (mul_mod_left c a b h)

-- ---- parts and order of summing

-- a sum in two parts
pub sum-split : (n m : ℕ) (f : ℕ → ℕ) → sum_below (n + m) f ≡ sum_below n f + sum_below m (λ j. f (n + j))
unfolding sum_below
sum-split n zero f = rw (add-zero n) (sym (add-zero (sum_below n f)))
sum-split n (suc m) f = rw (add-suc n m) (omega (arith, sum-split n m f))

-- terms that are zero from w on may be left out
pub sum-cut-within : (n w : ℕ) (f : ℕ → ℕ) → w ≤ n → ((q : ℕ) → w ≤ q → q < n → f q ≡ 0) → sum_below n f ≡ sum_below w f
sum-cut-within n w f h z =
    let e : n ≡ w + (n - w) = omega arith in
    let a = sum-split w (n - w) f in
    let b = sum-none (n - w) (λ j. f (w + j)) (λ j l. z (w + j) (omega arith) (omega arith)) in
    ap (λ i. sum_below i f) e ∙ omega arith

pub sum-cut : (n w : ℕ) (f : ℕ → ℕ) → w ≤ n → ((q : ℕ) → w ≤ q → f q ≡ 0) → sum_below n f ≡ sum_below w f
sum-cut n w f h z = sum-cut-within n w f h (λ q l below. z q l)

-- from the last term to the first
pub sum-reverse : (n : ℕ) (f : ℕ → ℕ) → sum_below (suc n) f ≡ sum_below (suc n) (λ q. f (n - q))
unfolding sum_below
sum-reverse zero f = refl
sum-reverse (suc n) f =
    let r = sum-reverse n f in
    let a = sum_first (suc n) (λ q. f (suc n - q)) in
    let b = sum-cong (suc n) (λ q. ap f (suc-sub-suc n q)) in
    let d = ap f (sub-zero (suc n)) in
    omega arith

pub sum-swap : (n m : ℕ) (f : ℕ → ℕ → ℕ) → sum_below n (λ a. sum_below m (λ b. f a b)) ≡ sum_below m (λ b. sum_below n (λ a. f a b))
unfolding sum_below
sum-swap zero m f = sym (sum_of-zeros m)
sum-swap (suc n) m f = ap (λ x. x + sum_below m (f n)) (sum-swap n m f) ∙ sym (sum-add m (λ b. sum_below n (λ a. f a b)) (f n))

-- four sums, the last two brought to the front
pub sum-swap-pairs : (n m k l : ℕ) (f : ℕ → ℕ → ℕ → ℕ → ℕ)
    → sum_below n (λ a. sum_below m (λ b. sum_below k (λ c. sum_below l (λ d. f a b c d))))
    ≡ sum_below l (λ d. sum_below k (λ c. sum_below n (λ a. sum_below m (λ b. f a b c d))))
sum-swap-pairs n m k l f =
    sum-cong n (λ a. sum-cong m (λ b. sum-swap k l (f a b)) ∙ sum-swap m l (λ b d. sum_below k (λ c. f a b c d)))
    ∙ sum-swap n l (λ a d. sum_below m (λ b. sum_below k (λ c. f a b c d)))
    ∙ sum-cong l (λ d. sum-cong n (λ a. sum-swap m k (λ b c. f a b c d)) ∙ sum-swap n k (λ a c. sum_below m (λ b. f a b c d)))

-- ---- order

pub sum_mono : (n : ℕ) (f g : ℕ → ℕ) → ((q : ℕ) → q < n → f q ≤ g q) → sum_below n f ≤ sum_below n g
unfolding sum_below
sum_mono zero f g h = zero-le
sum_mono (suc n) f g h = add-le-add (sum_mono n f g (λ q l. h q (omega arith))) (h n (le_refl (suc n)))

-- a term is at most the sum
pub term-le-sum : (n : ℕ) (f : ℕ → ℕ) (i : ℕ) → i < n → f i ≤ sum_below n f
unfolding sum_below
term-le-sum zero f i l = absurd (omega arith)
term-le-sum (suc n) f i l =
    ⊎_elim (λ e. let e' : f i ≡ f n = ap f e in omega arith) (λ l'. let r = term-le-sum n f i l' in omega arith) (last-or-below l)

-- ---- one index picked out

-- elsewhere f is at most g, there at most g + d
pub sum-but-one : (n : ℕ) (f g : ℕ → ℕ) (i d : ℕ) → i < n → f i ≤ g i + d → ((q : ℕ) → q < n → q ≢ i → f q ≤ g q)
    → sum_below n f ≤ sum_below n g + d
unfolding sum_below
sum-but-one zero f g i d l h r = absurd (omega arith)
sum-but-one (suc n) f g i d l h r =
    ⊎_elim
    (λ e.
    let h' : f n ≤ g n + d = rw e at h in
    let s = sum_mono n f g (λ q l'. r q (omega arith) (omega arith)) in
    omega arith)
    (λ l'.
    let s = sum-but-one n f g i d l' h (λ q lq ne. r q (omega arith) ne) in
    let t = r n (le_refl (suc n)) (omega arith) in
    omega arith)
    (last-or-below l)

-- two sums whose terms differ at i alone, by d
pub sum-one_more : (n i d : ℕ) (f g : ℕ → ℕ) → i < n → ((q : ℕ) → q ≢ i → f q ≡ g q) → f i ≡ g i + d → sum_below n f ≡ sum_below n g + d
unfolding sum_below
sum-one_more zero i d f g l same more = absurd (omega arith)
sum-one_more (suc n) i d f g l same more =
    ⊎_elim
    (λ e. omega (arith, sum_same n f g (λ q lq. same q (λ w. absurd (omega arith))), ap f e, ap g e, more))
    (λ l'. omega (arith, sum-one_more n i d f g l' same more, same n (λ w. absurd (omega arith))))
    (last-or-below l)

-- a sum of digits of which no two are 1 is at most 1
pub at_most_one : (n : ℕ) (f : ℕ → ℕ) → ((q : ℕ) → q < n → f q ≤ 1) → ((q r : ℕ) → q < r → r < n → f q ≡ 1 → f r ≡ 1 → ⊥)
    → sum_below n f ≤ 1
unfolding sum_below
at_most_one zero f d h = zero-le
at_most_one (suc n) f d h =
    go (dec_lt 0 (f n)) (at_most_one n f (λ q l. d q (omega arith)) (λ q r l l'. h q r l (omega arith)))
  where
    go : Dec (0 < f n) → sum_below n f ≤ 1 → sum_below n f + f n ≤ 1
    go (yes l) below =
        let last = d n (le_refl (suc n)) in
        let z = sum-none n f (λ q lq. digit-zero (d q (omega arith)) (λ e. h q n lq (le_refl (suc n)) e (omega arith))) in
        omega arith
    go (no ne) below = omega arith
