-- A card whose checks keep within its memory: the code of its words touches what the card does, and nothing after the memory, so that a pass under
-- the one is a pass under the other.
use Prim.Native.Nat.{ℕ, suc, ◌+◌, ◌-◌, ◌*◌, ◌%◌, ◌^◌, ◌≤◌, ◌<◌, max}
use mathlib.Core.Path.{◌≡◌, sym, ap, ◌∙◌}
use mathlib.Core.List.{List}
use mathlib.Core.Logic.{⊎_elim}
use native.Mathlib.Nat.{mul-zero, zero-mul}
use native.Mathlib.Omega.{arith}
use borrow.Author.Tests.{lt-ltb, le-ltb}
use Rattle.bits.specs.Sums.{sum_below, back}
use Rattle.bits.specs.Digits.{bit}
use Rattle.bits.proofs.Cases.{le-or-lt}
use Rattle.bits.proofs.Sums.{sum-cong, sum-cut, sum-none}
use Rattle.bits.proofs.Back.{back-out}
use Rattle.bits.proofs.Digits.{bit_high}
use Rattle.code.specs.Code.{generator}
use Rattle.code.specs.Checks.{touches_info, touches_by, besides}
use Rattle.code.specs.Judging.{clashes, judge}
use Rattle.code.specs.declared.Card.{Card}
use Rattle.code.proofs.Judging.{judge-same}
use Rattle.orthogonal.specs.Pass.{holds, Passed, word_code}

module _ (c : Card) (m_most : c.m ≤ 31) (mask : ℕ → ℕ) (within : (j : ℕ) → mask j < 2 ^ (c.m + 1)) where
  abbrev words : Card
  words = word_code c.generators c.k c.p

  -- a digit of a mask after the memory
  none-at : (j a : ℕ) → c.m < a → bit (mask j) a ≡ 0
  none-at j a l = bit_high (mask j) (c.m + 1) a (within j) (omega arith)

  touches-within : (b s : ℕ) → touches_by words mask b s ≡ touches_by c mask b s
  unfolding touches_by touches_info generator
  touches-within b s =
      ⊎_elim
      (λ parity. rw (le-ltb s c.k parity))
      (λ info.
      rw (lt-ltb s c.k info)
      (ap (λ x. x % 2)
      (sum-cong c.p (λ j.
      sum-cut 32 (suc c.m) (λ a. bit (mask j) a * back (generator c s j) a b) (omega arith)
      (λ a l. ap (λ x. x * back (generator c s j) a b) (none-at j a (omega arith)) ∙ zero-mul _)))))
      (le-or-lt c.k s)

  none_after : (b s : ℕ) → c.m < b → touches_by words mask b s ≡ 0
  unfolding touches_by touches_info
  none_after b s l =
      ⊎_elim
      (λ parity. rw (le-ltb s c.k parity) (none-at (s - c.k) b l))
      (λ info.
      rw (lt-ltb s c.k info)
      (ap (λ x. x % 2)
      (sum-none c.p _ (λ j h.
      sum-none 32 _ (λ a w.
      ⊎_elim
      (λ low. ap (λ x. bit (mask j) a * x) (back-out (generator words s j) a b (omega arith)) ∙ mul-zero _)
      (λ high. ap (λ x. x * back (generator words s j) a b) (none-at j a high) ∙ zero-mul _)
      (le-or-lt a c.m))))))
      (le-or-lt c.k s)

  module _ (i : ℕ) (touched : ℕ → ℕ → ℕ) where
    pub clashes-within : clashes words i mask touched ≡ clashes c i mask touched
    unfolding clashes
    clashes-within =
        sum-cut 32 (suc c.m) (λ b. sum_below (c.k + c.p) (λ s. besides i b s * (touches_by words mask b s * touched b s))) (omega arith)
        (λ b l.
        sum-none (c.k + c.p) _ (λ s h.
        ap (λ x. besides i b s * (x * touched b s)) (none_after b s (omega arith)) ∙ ap (λ x. besides i b s * x) (zero-mul (touched b s)) ∙ mul-zero (besides i b s)))
        ∙ sum-cong (suc c.m) (λ b. sum-cong (c.k + c.p) (λ s. ap (λ x. besides i b s * (x * touched b s)) (touches-within b s)))

    pub judge-within : judge words i mask touched ≡ judge c i mask touched
    judge-within =
        judge-same words c i mask mask touched touched (touches-within 0 i) (λ z. sym clashes-within ∙ z) (λ z. clashes-within ∙ z)

  pub passed-within : {i number : ℕ} {before after : List ℕ} → Passed words i mask before number after → Passed c i mask before number after
  passed-within {i} {number} {before} P =
      record {
        number_is = P.number_is ∙ judge-within i (holds before);
        added = λ z b s lb ls. P.added z b s (omega arith) ls ∙ ap (max (holds before b s)) (touches-within b s);
        kept = P.kept;
      }
