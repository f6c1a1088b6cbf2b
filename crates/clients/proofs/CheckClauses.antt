-- What the clauses of the pass's promise give for checks of Q, the definitions computed.
use Prim.Native.Nat.{ℕ, ◌<◌, max}
use mathlib.Core.Path.{◌≡◌, refl, ◌∙◌}
use mathlib.Core.List.{List, ◌∷◌}
use native.Mathlib.Nat.{le_antisymm}
use native.Mathlib.Omega.{arith}
use lib.ListN.{replicate}
use Rattle.bits.specs.Sums.{sum_below, back}
use Rattle.bits.specs.Digits.{bit}
use Rattle.bits.proofs.Sums.{all-at_most-twice}
use Rattle.code.specs.Code.{generator}
use Rattle.code.specs.Checks.{touches_info, touches_by, besides}
use Rattle.code.specs.Judging.{clashes, judge}
use Rattle.orthogonal.specs.Pass.{holds}
use Rattle.clients.specs.Touched.{code_q, check_of, After, Holds}

-- the errors that s0 touches, and those that s0 and s1 touch
abbrev first : List ℕ
first = 1 ∷ 1 ∷ replicate 6 0

abbrev both : List ℕ
both = 3 ∷ 3 ∷ replicate 6 0

-- those touched before, with the ones that a check touches
abbrev with : ℕ → List ℕ → ℕ → ℕ → ℕ
with mask before b s = max (holds before b s) (touches_by code_q (check_of mask) b s)

with-s0 : (b s : ℕ) → b < 32 → s < 8 → with 1 (replicate 8 0) b s ≡ holds first b s
unfolding sum_below back bit generator touches_info touches_by holds
with-s0 b s lb ls =
    le_antisymm (all-at_most-twice 32 8 (with 1 (replicate 8 0)) (holds first) refl b s lb ls) (all-at_most-twice 32 8 (holds first) (with 1 (replicate 8 0)) refl b s lb ls)

with-s1 : (b s : ℕ) → b < 32 → s < 8 → with 2 first b s ≡ holds both b s
unfolding sum_below back bit generator touches_info touches_by holds
with-s1 b s lb ls = le_antisymm (all-at_most-twice 32 8 (with 2 first) (holds both) refl b s lb ls) (all-at_most-twice 32 8 (holds both) (with 2 first) refl b s lb ls)

module _ {number : ℕ} {after : List ℕ} where
  module _ (p : After 1 (replicate 8 0) number after) where
    s0-number : number ≡ 0
    unfolding sum_below back bit generator touches_info touches_by besides clashes judge holds
    s0-number = p.number_is

    pub s0-stands : (number ≡ 0) × Holds after first
    s0-stands = (s0-number, λ b s lb ls. p.added s0-number b s (omega arith) ls ∙ with-s0 b s lb ls)

  module _ (p : After 2 first number after) where
    s1-number : number ≡ 0
    unfolding sum_below back bit generator touches_info touches_by besides clashes judge holds
    s1-number = p.number_is

    pub s1-stands : (number ≡ 0) × Holds after both
    s1-stands = (s1-number, λ b s lb ls. p.added s1-number b s (omega arith) ls ∙ with-s1 b s lb ls)

  module _ (p : After 4 both number after) where
    s2-number : number ≡ 8
    unfolding sum_below back bit generator touches_info touches_by judge
    s2-number = p.number_is

    pub s2-fails : (number ≡ 8) × (after ≡ both)
    s2-fails = (s2-number, p.kept (λ z. let e = s2-number in omega arith))

  module _ (p : After 1 first number after) where
    again-number : number ≡ 9
    unfolding sum_below back bit generator touches_info touches_by besides clashes judge holds
    again-number = p.number_is

    pub s0-fails-again : (number ≡ 9) × (after ≡ first)
    s0-fails-again = (again-number, p.kept (λ z. let e = again-number in omega arith))
