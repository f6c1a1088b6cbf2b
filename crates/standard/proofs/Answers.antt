-- What writing a standard card comes to, of J outside 2 to 7 and within.
use Prim.Native.Nat.{ℕ, ◌≤◌, ◌<◌}
use mathlib.Core.Path.{◌≡◌, refl, sym, ap, ◌∙◌}
use mathlib.Core.List.{List, []}
use mathlib.Core.Logic.{◌⊎◌, inl, inr, ⊎_elim}
use native.Mathlib.Omega.{arith}
use lib.IntN.{pos}
use lib.Signed.{mag}
use borrow.Author.Tests.{le-leb, lt-leb}
use Rattle.bits.proofs.Cases.{le-or-lt}
use Rattle.outcomes.specs.Outcome.{BurstOutcome, outcome, given_of, fitted}
use Rattle.outcomes.proofs.Outcomes.{given_is, count_is}
use Rattle.standard.specs.Standard.{standard_card, standard_of, StandardCards}

module _ (J : ℕ) (output : List ℕ) where
  none_below : J < 2 → standard_of J output ≡ given_of [] output
  unfolding standard_of
  none_below l = rw (lt-leb 2 J l)

  none_above : 7 < J → standard_of J output ≡ given_of [] output
  unfolding standard_of
  none_above l = rw (le-leb 2 J (omega arith), lt-leb J 7 l)

  pub within : 2 ≤ J → J ≤ 7 → standard_of J output ≡ fitted (standard_card J) output
  unfolding standard_of
  within least most = rw (le-leb 2 J least, le-leb J 7 most)

  pub outside : (J < 2) ⊎ (7 < J) → outcome (pos 0) output ≡ standard_of J output
  outside o = given_is 0 [] output refl refl refl ∙ sym (⊎_elim none_below none_above o)

  -- a count that is answered is no more than that of the longest card
  module _ (claims : StandardCards) {n : ℕ} {after : List ℕ} (e : outcome (pos n) after ≡ standard_of J output) where
    none-counted : (J < 2) ⊎ (7 < J) → n ≡ 0
    none-counted o = ap (λ (b : BurstOutcome). mag b.answer) (e ∙ sym (outside o))

    pub count_most : n ≤ 45
    count_most =
        ⊎_elim
        (λ (least : 2 ≤ J).
        ⊎_elim
        (λ (most : J ≤ 7).
        omega (arith, count_is (standard_card J) output (e ∙ within least most), claims.length_is J least most))
        (λ (l : 7 < J). omega (arith, none-counted (inr l)))
        (le-or-lt J 7))
        (λ (l : J < 2). omega (arith, none-counted (inl l)))
        (le-or-lt 2 J)
