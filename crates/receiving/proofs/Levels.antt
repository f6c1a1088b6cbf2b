-- What a level yields, by its tests against the infinities, 0.25 and minus 0.25.
use Prim.Native.Nat.{ℕ, ◌*◌}
use mathlib.Core.Path.{◌≡◌, refl, sym, ap, ◌∙◌}
use mathlib.Core.Bool.{Bool, true, false, not, ◌&&◌, ◌||◌, false≢true, true≢false}
use native.Mathlib.Omega.{arith}
use lib.Dec.{ltb, eqb}
use lib.IntN.{ℤ, negsuc}
use lib.Ieee.{Float, nan, inf, fin, lt, eq, le, up, down}
use lib.Ieee.Fits.{down_pos}
use borrow.Author.Tests.{ltb-true, ltb-false, lt-ltb, le-ltb, eqb-true, eqb-false}
use Rattle.receiving.specs.Readings.{digit, erased, refusal, in_band, digit_of_level}

-- ---- a number against a quarter of its sign or of the other

-- 0.25, or minus 0.25 where the sign is true
abbrev pub quarter : Bool → Float
quarter sign = fin sign 1 (negsuc 1)

-- m · 2 ^ e is in the band exactly if 4 m · 2 ^ e is neither above 1 nor equal to it, which `same` tests
by_tests : (m : ℕ) (e : ℤ) (same : Bool) → (same ≡ true → m * up e * 4 ≡ 1 * down e) → (same ≡ false → m * up e * 4 ≡ 1 * down e → ⊥)
    → in_band m e ≡ not (ltb (1 * down e) (m * up e * 4) || (same && true))
unfolding in_band
by_tests m e same equal unequal = go (ltb (1 * down e) (m * up e * 4)) refl same refl
  where
    go : (b : Bool) → ltb (1 * down e) (m * up e * 4) ≡ b → (a : Bool) → same ≡ a → ltb (4 * (m * up e)) (down e) ≡ not (b || (a && true))
    go true p a q = le-ltb (4 * (m * up e)) (down e) (omega (arith, ltb-true (1 * down e) (m * up e * 4) p))
    go false p true q = le-ltb (4 * (m * up e)) (down e) (omega (arith, equal q))
    go false p false q = lt-ltb (4 * (m * up e)) (down e) (omega (arith, ltb-false (1 * down e) (m * up e * 4) p, unequal q))

-- numbers of other signs are equal if both are zero
no_zero : (a b : ℕ) → (a ≡ b → a ≡ 0 → ⊥) → eqb a b && eqb a 0 ≡ false
no_zero a b never = go (eqb a b) refl (eqb a 0) refl
  where
    go : (s : Bool) → eqb a b ≡ s → (t : Bool) → eqb a 0 ≡ t → s && t ≡ false
    go true p true q = absurd (never (eqb-true a b p) (eqb-true a 0 q))
    go true p false q = refl
    go false p t q = refl

module _ (m : ℕ) (e : ℤ) where
  above : in_band m e ≡ not (le (quarter false) (fin false m e))
  unfolding le lt eq
  above =
      by_tests m e (eqb (1 * down e) (m * up e * 4)) (λ q. sym (eqb-true (1 * down e) (m * up e * 4) q)) (λ q r. eqb-false (1 * down e) (m * up e * 4) q (sym r))

  below : in_band m e ≡ not (le (fin true m e) (quarter true))
  unfolding le lt eq
  below = by_tests m e (eqb (m * up e * 4) (1 * down e)) (eqb-true (m * up e * 4) (1 * down e)) (eqb-false (m * up e * 4) (1 * down e))

  not-above : le (quarter false) (fin true m e) ≡ false
  unfolding le lt eq
  not-above = no_zero (1 * down e) (m * up e * 4) (λ q z. absurd (omega (arith, down_pos e)))

  not-below : le (fin false m e) (quarter true) ≡ false
  unfolding le lt eq
  not-below = no_zero (m * up e * 4) (1 * down e) (λ q z. absurd (omega (arith, down_pos e)))

-- ---- a level

pub at-least-quarter : (x : Float) → lt x (inf false) ≡ true → le (quarter false) x ≡ true → digit_of_level x ≡ digit 1
unfolding lt le eq digit_of_level
at-least-quarter nan a b = absurd (false≢true a)
at-least-quarter (inf true) a b = absurd (false≢true b)
at-least-quarter (inf false) a b = absurd (false≢true a)
at-least-quarter (fin true m e) a b = absurd (false≢true (sym (not-above m e) ∙ b))
at-least-quarter (fin false m e) a b = rw (above m e ∙ ap not b)

pub at_most-minus_quarter : (x : Float) → lt (inf true) x ≡ true → le x (quarter true) ≡ true → digit_of_level x ≡ digit 0
unfolding lt le eq digit_of_level
at_most-minus_quarter nan a b = absurd (false≢true a)
at_most-minus_quarter (inf true) a b = absurd (false≢true a)
at_most-minus_quarter (inf false) a b = absurd (false≢true b)
at_most-minus_quarter (fin true m e) a b = rw (below m e ∙ ap not b)
at_most-minus_quarter (fin false m e) a b = absurd (false≢true (sym (not-below m e) ∙ b))

pub between : (x : Float) → lt x (inf false) ≡ true → lt (inf true) x ≡ true → le (quarter false) x ≡ false → le x (quarter true) ≡ false → digit_of_level x ≡ erased
unfolding lt digit_of_level
between nan a l b c = absurd (false≢true a)
between (inf true) a l b c = absurd (false≢true l)
between (inf false) a l b c = absurd (false≢true a)
between (fin true m e) a l b c = rw (below m e ∙ ap not c)
between (fin false m e) a l b c = rw (above m e ∙ ap not b)

pub not-below-infinity : (x : Float) → lt x (inf false) ≡ false → digit_of_level x ≡ refusal 12
unfolding lt digit_of_level
not-below-infinity nan a = refl
not-below-infinity (inf s) a = refl
not-below-infinity (fin s m e) a = absurd (true≢false a)

pub not-above-minus-infinity : (x : Float) → lt (inf true) x ≡ false → digit_of_level x ≡ refusal 12
unfolding lt digit_of_level
not-above-minus-infinity nan a = refl
not-above-minus-infinity (inf s) a = refl
not-above-minus-infinity (fin s m e) a = absurd (true≢false a)
