-- A sequence looked back into: where there was time, where there was none, and a convolution read from its other end.
use Prim.Native.Nat.{ℕ, suc, ◌+◌, ◌-◌, ◌*◌, ◌≤◌, ◌<◌}
use mathlib.Core.Path.{◌≡◌, sym, ap, ap₂, ◌∙◌}
use mathlib.Core.Bool.{Bool, cond}
use native.Mathlib.Nat.{mul-zero, zero-mul}
use native.Mathlib.Decide.{dec_le}
use native.Mathlib.Omega.{arith}
use lib.Dec.{leb-suc-suc}
use borrow.Author.Tests.{le-leb, lt-leb}
use Rattle.bits.specs.Sums.{sum_below, back}
use Rattle.bits.proofs.Sums.{sum_same, sum-cong, sum-cut, sum-none, sum-reverse, sum-split}

pub back_in : (f : ℕ → ℕ) (t a : ℕ) → a ≤ t → back f t a ≡ f (t - a)
unfolding back
back_in f t a l = rw (le-leb a t l)

pub back-out : (f : ℕ → ℕ) (t a : ℕ) → t < a → back f t a ≡ 0
unfolding back
back-out f t a l = rw (lt-leb a t l)

pub back-suc : (f : ℕ → ℕ) (t a : ℕ) → back f (suc t) (suc a) ≡ back f t a
unfolding back
back-suc f t a =
    let e : suc t - suc a ≡ t - a = omega arith in
    ap₂ (λ (b : Bool) (x : ℕ). cond b (f x) 0) (leb-suc-suc a t) e

pub back-add : (f g : ℕ → ℕ) (t a : ℕ) → back f t a + back g t a ≡ back (λ u. f u + g u) t a
back-add f g t a = go (dec_le a t)
  where
    go : Dec (a ≤ t) → back f t a + back g t a ≡ back (λ u. f u + g u) t a
    go (yes l) = rw (back_in f t a l, back_in g t a l, back_in (λ u. f u + g u) t a l)
    go (no n) = let l : t < a = omega arith in rw (back-out f t a l, back-out g t a l, back-out (λ u. f u + g u) t a l)

-- the sum of g a · h (t - a), read from the other end
pub turned : (n t : ℕ) (g h : ℕ → ℕ) → t < n → sum_below n (λ a. g a * back h t a) ≡ sum_below n (λ b. back g t b * h b)
turned n t g h l =
    sum-cut n (suc t) (λ a. g a * back h t a) l (λ a la. rw (back-out h t a la) (mul-zero (g a)))
    ∙ sum-reverse t (λ a. g a * back h t a)
    ∙ sum_same (suc t) (λ b. g (t - b) * back h t (t - b)) (λ b. back g t b * h b)
    (λ b lb.
    let s : t - (t - b) ≡ b = omega arith in
    rw (back_in h t (t - b) (omega arith), back_in g t b (omega arith), s))
    ∙ sym (sum-cut n (suc t) (λ b. back g t b * h b) l (λ b lb. rw (back-out g t b lb) (zero-mul (h b))))

-- the sum of f a · g (a - b) over a = b, .., n - 1, as one over a - b
pub sum-from : (n b : ℕ) (f g : ℕ → ℕ) → b ≤ n → sum_below n (λ a. f a * back g a b) ≡ sum_below (n - b) (λ a. f (b + a) * g a)
sum-from n b f g h =
    let e : n ≡ b + (n - b) = omega arith in
    ap (λ i. sum_below i (λ a. f a * back g a b)) e
    ∙ sum-split b (n - b) (λ a. f a * back g a b)
    ∙ ap₂ ◌+◌ (sum-none b _ (λ a l. rw (back-out g a b l) (mul-zero (f a))))
    (sum-cong (n - b) {f = λ a. f (b + a) * back g (b + a) b} {g = λ a. f (b + a) * g a} (λ a. let q : b + a - b ≡ a = omega arith in rw (back_in g (b + a) b (omega arith), q)))
    ∙ omega arith
