-- The errors that a check touches and that are among those of before, stream by stream: there are none exactly if the check clashes with none.
use Prim.Native.Nat.{ℕ, ◌+◌, ◌*◌, ◌^◌, ◌<◌}
use mathlib.Core.Path.{◌≡◌, sym, ap, ap₂, ◌∙◌}
use mathlib.Core.List.{List}
use mathlib.Core.Logic.{⊎_elim}
use native.Mathlib.Nat.{mul-zero, zero-mul, mod-eq_of_lt}
use lib.ListN.{get_or}
use Rattle.bits.specs.Digits.{bit, from_digits}
use Rattle.bits.proofs.Cases.{le-or-lt}
use Rattle.bits.proofs.Sums.{sum-none, none_of-sum}
use Rattle.bits.proofs.Digits.{bit-of-zero, from_digits-bits}
use Rattle.code.specs.Checks.{touches_by, besides}
use Rattle.code.specs.Judging.{clashes}
use Rattle.orthogonal.specs.Pass.{holds, Touched, Clash, word_code, first_masks}
use Rattle.orthogonal.proofs.WordCode.{touches-beyond}

module _ (generators masks before : List ℕ) (k p i : ℕ) where
  -- 1 if the check touches the error (b, s) again, and it is not that of the own digit
  abbrev again : ℕ → ℕ → ℕ
  again b s = besides i b s * (touches_by (word_code generators k p) (first_masks p masks) b s * holds before b s)

  -- none of stream s
  pub record Clear (s : ℕ) : Type 0 where
    pub none : (b : ℕ) → b < 32 → again b s ≡ 0

  -- ---- one stream, by what is worked out of it
  module _ {s errors word both : ℕ} (touched : Touched (word_code generators k p) (first_masks p masks) s errors) (held : word ≡ get_or before s 0)
      (clash : Clash i s errors word both) where
    both_at : (b : ℕ) → b < 32 → bit both b ≡ again b s
    unfolding holds
    both_at b l = clash.both_are b ∙ ap₂ (λ x y. besides i b s * (x * bit y b)) (touched.touches_are b l) held

    pub none-clear : both ≡ 0 → Clear s
    none-clear z = record { none = λ b l. sym (both_at b l) ∙ ap (λ x. bit x b) z ∙ bit-of-zero b }

    pub clear_none : both < 2 ^ 32 → Clear s → both ≡ 0
    unfolding from_digits
    clear_none w h =
        sym (from_digits-bits 32 both ∙ mod-eq_of_lt w)
        ∙ sum-none 32 _ (λ b l. ap (λ x. x * 2 ^ b) (both_at b l ∙ h.none b l) ∙ zero-mul (2 ^ b))

  -- ---- all streams
  pub clear-clashes : ((s : ℕ) → s < k + p → Clear s) → clashes (word_code generators k p) i (first_masks p masks) (holds before) ≡ 0
  unfolding clashes
  clear-clashes h = sum-none 32 _ (λ b l. sum-none (k + p) _ (λ s w. (h s w).none b l))

  pub clashes-clear : clashes (word_code generators k p) i (first_masks p masks) (holds before) ≡ 0 → (s : ℕ) → Clear s
  unfolding clashes
  clashes-clear e s =
      record {
        none = λ b l.
            ⊎_elim
            (λ beyond.
            ap (λ x. besides i b s * (x * holds before b s)) (touches-beyond generators masks k p b s beyond)
            ∙ ap (λ x. besides i b s * x) (zero-mul (holds before b s)) ∙ mul-zero (besides i b s))
            (λ below. none_of-sum (k + p) (again b) (none_of-sum 32 _ e b l) s below)
            (le-or-lt (k + p) s);
      }
