-- The pass over a check, as the page has it.
use Prim.Native.Nat.{ℕ, zero, suc, ◌+◌, ◌-◌, ◌*◌, ◌≤◌}
use mathlib.Core.Path.{◌≡◌, refl, ap, ◌∙◌}
use mathlib.Core.Bool.{cond}
use mathlib.Core.List.{List, [], ◌∷◌}
use lib.Dec.{ltb, eqb, eqb-suc-zero}
use native.Mathlib.Omega.{arith}
use borrow.Author.Tests.{lt-ltb}
use Rattle.bits.specs.Sums.{sum_below}
use Rattle.bits.proofs.Sums.{sum-cong}
use Rattle.code.specs.Checks.{touches_by}
use Rattle.code.specs.Judging.{clashes, judge}
use Rattle.code.specs.declared.Card.{Card}
use Rattle.code.proofs.Touches.{touches_by-le}
use Rattle.orthogonal.specs.Pass.{Passed, holds}
use Rattle.terms.specs.Terms.{own, when, first, Passes}
use Rattle.terms.proofs.Own.{besides-is}

-- the errors besides its own digit that a check touches, each as often as it was touched
pub clashes-are : (c : Card) (i : ℕ) (mask : ℕ → ℕ) (touched : ℕ → ℕ → ℕ)
    → clashes c i mask touched ≡ sum_below (suc c.m) (λ b. sum_below (c.k + c.p) (λ s. (1 - own i b s) * (touches_by c mask b s * touched b s)))
unfolding clashes
clashes-are c i mask touched =
    sum-cong (suc c.m) (λ b. sum-cong (c.k + c.p) (λ s. ap (λ x. x * (touches_by c mask b s * touched b s)) (besides-is i b s)))

-- "8, else 9", of a check that touches its own digit, 1 or 0, and so many errors that were touched before
eight-else-nine : (touch clash : ℕ) → touch ≤ 1 → cond (eqb touch 1) (cond (eqb clash 0) 0 9) 8 ≡ first (when 8 (eqb touch 0) ∷ when 9 (ltb 0 clash) ∷ [])
unfolding first
eight-else-nine zero clash l = refl
eight-else-nine (suc zero) zero l = refl
eight-else-nine (suc zero) (suc clash) l = rw (eqb-suc-zero clash, lt-ltb 0 (suc clash) (omega arith))
eight-else-nine (suc (suc touch)) clash l = absurd (omega arith)

pub passes : {c : Card} {i : ℕ} {mask : ℕ → ℕ} {before : List ℕ} {number : ℕ} {after : List ℕ} → Passed c i mask before number after
    → Passes c i mask before number after
unfolding judge
passes {c} {i} {mask} {before} promise =
    record {
      number_is =
          promise.number_is
          ∙ eight-else-nine (touches_by c mask 0 i) (clashes c i mask (holds before)) (touches_by-le c mask 0 i)
          ∙ ap (λ x. first (when 8 (eqb (touches_by c mask 0 i) 0) ∷ when 9 (ltb 0 x) ∷ [])) (clashes-are c i mask (holds before));
      added = promise.added;
      kept = promise.kept;
    }
