-- The registers of n streams that hold the digits of times u to t - 1: those of a frame put in, and the registers moved on.
use Prim.Native.Nat.{ℕ, suc, ◌+◌, ◌/◌, ◌≤◌, ◌<◌}
use mathlib.Core.Path.{◌≡◌, sym, ap, ◌∙◌}
use mathlib.Core.List.{List}
use native.Mathlib.Omega.{arith}
use lib.ListN.{length, get_or, replicate}
use lib.Bits.{bit_xor}
use Rattle.bits.specs.Digits.{bit}
use Rattle.bits.proofs.Digits.{bit-lt, bit-of-zero}
use Rattle.bits.proofs.Held.{held, held_out, put_in, moved}
use Rattle.bits.proofs.Lists.{up_to-length, up_to-at, zeros-at}
use Rattle.code.specs.Code.{digit}
use Rattle.code.specs.Registers.{with_digits, with_words, moved_on}

abbrev pub DigitsAt : ℕ → List ℕ → ℕ → ℕ → List ℕ → Type 0
DigitsAt n frames u t y = (s a : ℕ) → s < n → bit (get_or y s 0) a ≡ held (digit frames s) u t a

-- each of the changes leaves the registers as many as they are
pub digits-length : (y : List ℕ) (f place : ℕ) → length (with_digits y f place) ≡ length y
unfolding with_digits
digits-length y f place = up_to-length (length y) _

pub words-length : (y words : List ℕ) → length (with_words y words) ≡ length y
unfolding with_words
words-length y words = up_to-length (length y) _

pub moved_length : (y : List ℕ) → length (moved_on y) ≡ length y
unfolding moved_on
moved_length y = up_to-length (length y) _

-- words added to the registers, register by register
pub words-at : (y words : List ℕ) (s : ℕ) → s < length y → get_or (with_words y words) s 0 ≡ bit_xor (get_or y s 0) (get_or words s 0)
unfolding with_words
words-at y words s l = up_to-at (length y) _ s l

pub moved_at : (y : List ℕ) (s : ℕ) → s < length y → get_or (moved_on y) s 0 ≡ get_or y s 0 / 2
unfolding moved_on
moved_at y s l = up_to-at (length y) _ s l

module _ (n : ℕ) (frames : List ℕ) where
  -- before the first frame no digit is held
  pub digits-start : (u : ℕ) → DigitsAt n frames u 0 (replicate 8 0)
  digits-start u s a l = ap (λ (x : ℕ). bit x a) (zeros-at 8 s) ∙ bit-of-zero a ∙ sym (held_out (digit frames s) u 0 a (omega arith))

  module _ (u t : ℕ) (y : List ℕ) (enough : n ≤ length y) (Y : DigitsAt n frames u t y) where
    -- the digits of time t, put in at their place
    pub digits-next : (place f : ℕ) → u + place ≡ t → place < 32 → f ≡ get_or frames t 0 → DigitsAt n frames u (suc t) (with_digits y f place)
    unfolding with_digits digit
    digits-next place f hp lp hf s a l =
        ap (λ (x : ℕ). bit x a) (up_to-at (length y) _ s (omega arith))
        ∙ put_in (λ v. bit (get_or frames v 0) s) u t (get_or y s 0) (λ b. Y s b l) (bit f s) place (ap (λ (x : ℕ). bit x s) hf) (bit-lt f s) hp lp a

    pub digits-moved : DigitsAt n frames (suc u) t (moved_on y)
    digits-moved s a l = ap (λ (x : ℕ). bit x a) (moved_at y s (omega arith)) ∙ moved (digit frames s) u t (get_or y s 0) (λ b. Y s b l) a
