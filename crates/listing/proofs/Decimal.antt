-- The decimal digits of a number: the last one, and how many there are.
use Prim.Native.Nat.{ℕ, zero, suc, ◌/◌, ◌%◌, ◌^◌, ◌≤◌, ◌<◌}
use mathlib.Core.Path.{◌≡◌, refl, sym, ap, ap₂, ◌∙◌}
use mathlib.Core.Logic.{⊎_elim}
use mathlib.Core.List.{List, [], ◌∷◌, ◌++◌, append_assoc}
use native.Mathlib.Nat.{pow-suc}
use native.Mathlib.Omega.{arith}
use lib.ListN.{length, length-append}
use borrow.Author.Tests.{lt-ltb, le-ltb}
use Rattle.bits.proofs.Cases.{le-or-lt}
use Rattle.outcomes.specs.Text.{glyph, decimal_within, decimal}

one-digit : (places n : ℕ) → n < 10 → decimal_within places n ≡ glyph n ∷ []
unfolding decimal_within
one-digit zero n h = refl
one-digit (suc places) n h = rw (lt-ltb n 10 h)

last-digit : (places n : ℕ) → 10 ≤ n → decimal_within (suc places) n ≡ decimal_within places (n / 10) ++ (glyph (n % 10) ∷ [])
unfolding decimal_within
last-digit places n h = rw (le-ltb n 10 h)

-- however many more places there are than the number counts, its digits are the same
same_digits : (p q n : ℕ) → n ≤ p → n ≤ q → decimal_within p n ≡ decimal_within q n
same_digits zero q n h k = one-digit zero n (omega arith) ∙ sym (one-digit q n (omega arith))
same_digits (suc p) zero n h k = one-digit (suc p) n (omega arith) ∙ sym (one-digit zero n (omega arith))
same_digits (suc p) (suc q) n h k =
    ⊎_elim
    (λ (l : 10 ≤ n).
    last-digit p n l ∙ ap (λ (s : List ℕ). s ++ (glyph (n % 10) ∷ [])) (same_digits p q (n / 10) (omega arith) (omega arith)) ∙ sym (last-digit q n l))
    (λ (l : n < 10). one-digit (suc p) n l ∙ sym (one-digit (suc q) n l))
    (le-or-lt 10 n)

pub decimal_digit : (n : ℕ) → n < 10 → decimal n ≡ glyph n ∷ []
unfolding decimal
decimal_digit n h = one-digit n n h

pub decimal-last : (n : ℕ) → 10 ≤ n → decimal n ≡ decimal (n / 10) ++ (glyph (n % 10) ∷ [])
unfolding decimal
decimal-last zero h = absurd (omega arith)
decimal-last (suc n) h =
    last-digit n (suc n) h ∙ ap (λ (s : List ℕ). s ++ (glyph (suc n % 10) ∷ [])) (same_digits n (suc n / 10) (suc n / 10) (omega arith) (omega arith))

-- a number of two digits, and of more: what stands before the last two, and these
pub decimal-two : (n : ℕ) → 10 ≤ n → n < 100 → decimal n ≡ glyph (n / 10) ∷ glyph (n % 10) ∷ []
decimal-two n h l = decimal-last n h ∙ ap (λ (s : List ℕ). s ++ (glyph (n % 10) ∷ [])) (decimal_digit (n / 10) (omega arith))

pub decimal-more : (n : ℕ) → 100 ≤ n → decimal n ≡ decimal (n / 100) ++ (glyph (n % 100 / 10) ∷ glyph (n % 100 % 10) ∷ [])
decimal-more n h =
    let hundreds : n / 10 / 10 ≡ n / 100 = omega arith in
    let tens : n / 10 % 10 ≡ n % 100 / 10 = omega arith in
    let ones : n % 10 ≡ n % 100 % 10 = omega arith in
    decimal-last n (omega arith)
    ∙ ap (λ (s : List ℕ). s ++ (glyph (n % 10) ∷ [])) (decimal-last (n / 10) (omega arith))
    ∙ append_assoc (decimal (n / 10 / 10)) (glyph (n / 10 % 10) ∷ []) (glyph (n % 10) ∷ [])
    ∙ ap (λ (m : ℕ). decimal m ++ (glyph (n / 10 % 10) ∷ glyph (n % 10) ∷ [])) hundreds
    ∙ ap₂ (λ (a b : ℕ). decimal (n / 100) ++ (glyph a ∷ glyph b ∷ [])) tens ones

-- a number below 10 ^ (d + 1) has at most d + 1 digits
pub decimal-length : (d n : ℕ) → n < 10 ^ suc d → length (decimal n) ≤ suc d
decimal-length zero n h = omega (arith, ap length (decimal_digit n h))
decimal-length (suc d) n h =
    ⊎_elim
    (λ (l : 10 ≤ n).
    let m : n / 10 < 10 ^ suc d = omega (arith, pow-suc 10 (suc d)) in
    omega (arith, ap length (decimal-last n l), length-append (decimal (n / 10)) (glyph (n % 10) ∷ []), decimal-length d (n / 10) m))
    (λ (l : n < 10). omega (arith, ap length (decimal_digit n l)))
    (le-or-lt 10 n)
