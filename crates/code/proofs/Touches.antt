-- What a check touches, by the kind of the error: an information error by the sum of the generators, a parity error by its pair.
use Prim.Native.Nat.{ℕ, suc, ◌+◌, ◌-◌, ◌*◌, ◌%◌, ◌≤◌, ◌<◌}
use mathlib.Core.Path.{◌≡◌, ap}
use mathlib.Core.Logic.{⊎_elim}
use native.Mathlib.Nat.{add-sub_cancel_left}
use native.Mathlib.Omega.{arith}
use lib.Dec.{ltb}
use borrow.Author.Tests.{lt-ltb, le-ltb}
use Rattle.bits.specs.Sums.{back}
use Rattle.bits.specs.Digits.{bit}
use Rattle.bits.proofs.Cases.{cond-le, le-or-lt}
use Rattle.bits.proofs.Sums.{sum_same, sum-cong}
use Rattle.bits.proofs.Digits.{bit_le}
use Rattle.code.specs.Code.{generator}
use Rattle.code.specs.Checks.{check_mask, touches_info, touches_by, touches}
use Rattle.code.specs.declared.Card.{Card}

module _ (c : Card) (mask : ℕ → ℕ) where
  pub touches-info : (b s : ℕ) → s < c.k → touches_by c mask b s ≡ touches_info c mask b s
  unfolding touches_by
  touches-info b s l = rw (lt-ltb s c.k l)

  pub touches-parity : (b j : ℕ) → touches_by c mask b (c.k + j) ≡ bit (mask j) b
  unfolding touches_by
  touches-parity b j = rw (le-ltb (c.k + j) c.k (omega arith), add-sub_cancel_left c.k j)

  pub touches_by-le : (b s : ℕ) → touches_by c mask b s ≤ 1
  unfolding touches_by touches_info
  touches_by-le b s = cond-le (ltb s c.k) _ _ 1 (omega arith) (bit_le (mask (s - c.k)) b)

-- only the masks of the parity streams count
pub touches-same : (c : Card) (mask mask₁ : ℕ → ℕ) (b s : ℕ) → ((j : ℕ) → j < c.p → mask j ≡ mask₁ j) → s < c.k + c.p
    → touches_by c mask b s ≡ touches_by c mask₁ b s
unfolding touches_by touches_info
touches-same c mask mask₁ b s h l =
    ⊎_elim
    (λ parity. rw (le-ltb s c.k parity) (ap (λ x. bit x b) (h (s - c.k) (omega arith))))
    (λ info.
    rw (lt-ltb s c.k info)
    (ap (λ x. x % 2) (sum_same c.p _ _ (λ j lj. sum-cong (suc c.m) (λ a. ap (λ x. bit x a * back (generator c s j) a b) (h j lj))))))
    (le-or-lt c.k s)

pub touches-le : (c : Card) (i q b s : ℕ) → touches c i q b s ≤ 1
unfolding touches
touches-le c i q b s = touches_by-le c (check_mask c i q) b s
