-- The own digit of a check, (0, i), apart from the others: what `besides` is, and a sum over all digits (b, s), b below B and s below S, by it.
use Prim.Native.Nat.{ℕ, ◌+◌, ◌*◌, ◌≤◌, ◌<◌}
use mathlib.Core.Path.{◌≡◌, refl, sym, ap, ◌∙◌}
use mathlib.Core.Logic.{◌⊎◌, inl, inr, ⊎_elim}
use native.Mathlib.Nat.{zero-mul, one-mul}
use native.Mathlib.Omega.{arith}
use lib.Dec.{eqb}
use borrow.Author.Tests.{eq-eqb, ne_eqb}
use Rattle.bits.specs.Sums.{sum_below}
use Rattle.bits.proofs.Cases.{same_or_not, cond-le}
use Rattle.bits.proofs.Sums.{sum-cong, sum-one_more}
use Rattle.code.specs.Checks.{besides}

pub besides-own : (i : ℕ) → besides i 0 i ≡ 0
unfolding besides
besides-own i = rw (eq-eqb i i refl)

pub besides-other : (i b s : ℕ) → (b ≡ 0 → s ≡ i → ⊥) → besides i b s ≡ 1
unfolding besides
besides-other i b s h = ⊎_elim (λ q. rw (eq-eqb b 0 q, ne_eqb s i (h q))) (λ q. rw (ne_eqb b 0 q)) (same_or_not b 0)

pub own-or-other : (i b s : ℕ) → (besides i b s ≡ 0) ⊎ (b ≡ 0 → s ≡ i → ⊥)
unfolding besides
own-or-other i b s =
    ⊎_elim
    (λ q. ⊎_elim (λ w. inl (rw (eq-eqb b 0 q, eq-eqb s i w))) (λ w. inr (λ x y. w y)) (same_or_not s i))
    (λ q. inr (λ x y. q x))
    (same_or_not b 0)

pub besides-le : (i b s : ℕ) → besides i b s ≤ 1
unfolding besides
besides-le i b s = cond-le (eqb b 0) _ 1 1 (cond-le (eqb s i) 0 1 1 (omega arith) (omega arith)) (omega arith)

pub own-apart : (B S i : ℕ) (f : ℕ → ℕ → ℕ) → 0 < B → i < S
    → sum_below B (λ b. sum_below S (λ s. f b s)) ≡ sum_below B (λ b. sum_below S (λ s. besides i b s * f b s)) + f 0 i
own-apart B S i f lb ls =
    sum-one_more B 0 (f 0 i) (λ b. sum_below S (λ s. f b s)) (λ b. sum_below S (λ s. besides i b s * f b s)) lb
    (λ b n. sum-cong S (λ s. sym (other b s (λ z _. n z))))
    (sum-one_more S i (f 0 i) (λ s. f 0 s) (λ s. besides i 0 s * f 0 s) ls (λ s n. sym (other 0 s (λ _ z. n z)))
    (sym (ap (λ x. x * f 0 i + f 0 i) (besides-own i) ∙ ap (λ x. x + f 0 i) (zero-mul (f 0 i)) ∙ omega arith)))
  where
    other : (b s : ℕ) → (b ≡ 0 → s ≡ i → ⊥) → besides i b s * f b s ≡ f b s
    other b s n = ap (λ x. x * f b s) (besides-other i b s n) ∙ one-mul (f b s)
