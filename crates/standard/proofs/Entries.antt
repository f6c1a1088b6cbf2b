-- One law for every table: lists that are equal are so entry by entry. So a test that is computed over a whole table holds at each of its entries.
use Prim.Native.Nat.{ℕ, zero, suc, ◌+◌, ◌-◌, ◌≤◌, ◌<◌}
use mathlib.Core.Path.{◌≡◌, ap, subst}
use mathlib.Core.List.{List, [], ◌∷◌}
use mathlib.Core.Logic.{⊎_elim}
use native.Mathlib.Omega.{arith}
use Rattle.bits.proofs.Cases.{le-or-lt}

-- f (n - 1), .., f 0
abbrev pub listed : {A : Type 0} → (ℕ → A) → ℕ → List A
listed f zero = []
listed f (suc n) = f n ∷ listed f n

abbrev first : {A : Type 0} → A → List A → A
first x [] = x
first x (y ∷ l) = y

abbrev rest : {A : Type 0} → List A → List A
rest [] = []
rest (y ∷ l) = l

module _ {A : Type 0} (f g : ℕ → A) where
  each_below : (n : ℕ) → listed f n ≡ listed g n → (i : ℕ) → i < n → f i ≡ g i
  each_below zero e i h = absurd (omega arith)
  each_below (suc n) e i h =
      ⊎_elim (λ (l : n ≤ i). let last : n ≡ i = omega arith in subst (λ (a : ℕ). f a ≡ g a) last (ap (first (f n)) e))
      (λ (l : i < n). each_below n (ap rest e) i l)
      (le-or-lt n i)

-- .. of a table that begins at entry 2, and has n of them
pub each : {A : Type 0} (n : ℕ) (f g : ℕ → A) → listed (λ i. f (2 + i)) n ≡ listed (λ i. g (2 + i)) n → (j : ℕ) → 2 ≤ j → j < 2 + n → f j ≡ g j
each n f g e j least most =
    let from : 2 + (j - 2) ≡ j = omega arith in
    subst (λ (a : ℕ). f a ≡ g a) from (each_below (λ i. f (2 + i)) (λ i. g (2 + i)) n e (j - 2) (omega arith))
