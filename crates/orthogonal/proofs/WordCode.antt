-- What a check touches under the code of some words, as the functions of the pass work it out.
use Prim.Native.Nat.{ℕ, ◌+◌, ◌-◌, ◌*◌, ◌%◌, ◌≤◌, ◌<◌}
use mathlib.Core.Path.{◌≡◌, sym, ap, ◌∙◌}
use mathlib.Core.List.{List}
use native.Mathlib.Omega.{arith}
use lib.ListN.{get_or, take, length-take, get_or-eq_default}
use lib.Seq.{get_or-take}
use borrow.Author.Tests.{lt-ltb, le-ltb}
use Rattle.bits.specs.Sums.{sum_below, back}
use Rattle.bits.specs.Digits.{bit}
use Rattle.bits.proofs.Sums.{sum_same, sum-cong}
use Rattle.bits.proofs.Digits.{bit-of-zero}
use Rattle.code.specs.Code.{generator}
use Rattle.code.specs.Checks.{touches_info, touches_by}
use Rattle.orthogonal.specs.Pass.{word_code, first_masks}

module _ (generators masks : List ℕ) (k p b s : ℕ) where
  -- an error of an information stream, as the sum over the parity streams
  pub information-sum :
      sum_below p (λ j. sum_below 32 (λ a. bit (get_or masks j 0) a * back (bit (get_or generators (s * 8 + j) 0)) a b)) % 2
      ≡ touches_info (word_code generators 0 p) (first_masks p masks) b s
  unfolding touches_info generator
  information-sum =
      ap (λ x. x % 2)
      (sum_same p _ _ (λ j h. sum-cong 32 (λ a. ap (λ x. bit x a * back (bit (get_or generators (s * 8 + j) 0)) a b) (sym (get_or-take p masks j 0 h)))))

  pub touches-information : {x : ℕ} → s < k → x ≡ touches_info (word_code generators 0 p) (first_masks p masks) b s
      → x ≡ touches_by (word_code generators k p) (first_masks p masks) b s
  unfolding touches_by touches_info generator
  touches-information l e = rw (lt-ltb s k l) e

  -- one of a parity stream
  pub touches-parity : k ≤ s → s < k + p → bit (get_or masks (s - k) 0) b ≡ touches_by (word_code generators k p) (first_masks p masks) b s
  unfolding touches_by
  touches-parity h l = rw (le-ltb s k h) (ap (λ x. bit x b) (sym (get_or-take p masks (s - k) 0 (omega arith))))

  -- and none of a stream that there is not
  pub touches-beyond : k + p ≤ s → touches_by (word_code generators k p) (first_masks p masks) b s ≡ 0
  unfolding touches_by
  touches-beyond h =
      rw (le-ltb s k (omega arith)) (ap (λ x. bit x b) (get_or-eq_default (take p masks) 0 {n = s - k} (omega (arith, length-take p masks))) ∙ bit-of-zero b)
