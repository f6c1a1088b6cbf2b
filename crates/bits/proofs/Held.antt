-- A register that holds the digits d of times u to n - 1, that of time u + a at place a: a digit more put in, and the register moved on.
use Prim.Native.Nat.{ℕ, suc, ◌+◌, ◌*◌, ◌/◌, ◌^◌, ◌≤◌, ◌<◌}
use mathlib.Core.Path.{◌≡◌, refl, sym, ap, ◌∙◌}
use mathlib.Core.Logic.{⊎_elim}
use mathlib.Core.Bool.{cond}
use native.Mathlib.Nat.{eq-or-lt_of_le}
use native.Mathlib.Omega.{arith}
use lib.Bits.{bit_xor}
use lib.Dec.{ltb}
use borrow.Author.Tests.{lt-ltb, le-ltb}
use Rattle.bits.specs.Digits.{bit, shift_up}
use Rattle.bits.proofs.Cases.{le-or-lt}
use Rattle.bits.proofs.Digits.{bit-lt, add_none, none-add, bit-suc, bit-xor, place_same, place_other}
use Rattle.bits.proofs.Words.{shift-digit}

unfoldable pub held : (ℕ → ℕ) → ℕ → ℕ → ℕ → ℕ
held d u n a = cond (ltb (u + a) n) (d (u + a)) 0

module _ (d : ℕ → ℕ) (u n a : ℕ) where
  pub held_in : u + a < n → held d u n a ≡ d (u + a)
  unfolding held
  held_in h = rw (lt-ltb (u + a) n h)

  pub held_out : n ≤ u + a → held d u n a ≡ 0
  unfolding held
  held_out h = rw (le-ltb (u + a) n h)

module _ (d : ℕ → ℕ) (u t y : ℕ) (Y : (a : ℕ) → bit y a ≡ held d u t a) where
  -- the digit of time t, at its place
  pub put_in : (v place : ℕ) → v ≡ d t → v < 2 → u + place ≡ t → place < 32 → (a : ℕ) → bit (bit_xor y (shift_up v place)) a ≡ held d u (suc t) a
  put_in v place e hv hp l a =
      ap (λ (x : ℕ). bit (bit_xor y x) a) (shift-digit v place hv l)
      ∙ bit-xor y (v * 2 ^ place) a
      ∙ ⊎_elim
      (λ (w : u + a ≤ t).
      ⊎_elim
      (λ (q : u + a ≡ t).
      let p : a ≡ place = omega arith in
      none-add (Y a ∙ held_out d u t a (omega arith)) (ap (bit (v * 2 ^ place)) p ∙ place_same v place hv) hv ∙ e ∙ ap d (sym q))
      (λ (q : u + a < t). add_none refl (place_other v place a hv (λ p. absurd (omega arith))) (bit-lt y a) ∙ Y a ∙ held_in d u t a q)
      (eq-or-lt_of_le w)
      ∙ sym (held_in d u (suc t) a (omega arith)))
      (λ (w : t < u + a).
      add_none refl (place_other v place a hv (λ p. absurd (omega arith))) (bit-lt y a) ∙ Y a ∙ held_out d u t a (omega arith) ∙ sym (held_out d u (suc t) a (omega arith)))
      (le-or-lt (u + a) t)

  -- every digit a place further, that of time u gone
  pub moved : (a : ℕ) → bit (y / 2) a ≡ held d (suc u) t a
  moved a =
      sym (bit-suc y a)
      ∙ Y (suc a)
      ∙ ⊎_elim
      (λ (w : t ≤ suc u + a). held_out d u t (suc a) (omega arith) ∙ sym (held_out d (suc u) t a w))
      (λ (w : suc u + a < t).
      let q : u + suc a ≡ suc u + a = omega arith in
      held_in d u t (suc a) (omega arith) ∙ ap d q ∙ sym (held_in d (suc u) t a w))
      (le-or-lt t (suc u + a))
