-- The terms of a word, the lowest taken out one by one: `x & (x - 1)` is x without its lowest 1, whose place is the count of its trailing zeros.
use Prim.Native.Nat.{ℕ, zero, suc, ◌-◌, ◌/◌, ◌%◌, ◌^◌, ◌<◌}
use mathlib.Core.Path.{◌≡◌, refl, sym, ap, ◌∙◌}
use mathlib.Core.Logic.{⊎_elim}
use native.Mathlib.Nat.{pow-suc}
use native.Mathlib.Omega.{arith}
use lib.Bits.{bit_and, and_self, and_step}
use lib.Count.{count_trailing_zeros}
use Rattle.bits.specs.Digits.{bit}
use Rattle.bits.proofs.Cases.{same_or_not}
use Rattle.bits.proofs.Digits.{bit-zero, bit-suc}

-- rest is x without its 1 at place t
pub record Without (x t rest : ℕ) : Type 0 where
  pub stands : bit x t ≡ 1
  pub gone : bit rest t ≡ 0
  pub others : (a : ℕ) → (a ≡ t → ⊥) → bit rest a ≡ bit x a

-- an odd number loses its digit at 0 ..
odd-without : (x : ℕ) → x % 2 ≡ 1 → Without x 0 (bit_and x (x - 1))
odd-without x o = record { stands = bit-zero x ∙ o; gone = bit-zero (bit_and x (x - 1)) ∙ last; others = λ a n. away a n }
  where
    last : bit_and x (x - 1) % 2 ≡ 0
    last = let s = and_step x (x - 1) in omega arith

    half : bit_and x (x - 1) / 2 ≡ x / 2
    half =
        let q : (x - 1) / 2 ≡ x / 2 = omega arith in
        let s = and_step x (x - 1) in
        let t : bit_and (x / 2) ((x - 1) / 2) ≡ x / 2 = ap (bit_and (x / 2)) q ∙ and_self (x / 2) in
        omega arith

    away : (a : ℕ) → (a ≡ 0 → ⊥) → bit (bit_and x (x - 1)) a ≡ bit x a
    away zero n = absurd (n refl)
    away (suc a) n = bit-suc (bit_and x (x - 1)) a ∙ ap (λ y. bit y a) half ∙ sym (bit-suc x a)

-- .. and an even one what its half loses, a place further
even-without : (x t : ℕ) → 0 < x → x % 2 ≡ 0 → Without (x / 2) t (bit_and (x / 2) (x / 2 - 1)) → Without x (suc t) (bit_and x (x - 1))
even-without x t h e w =
    record {
      stands = bit-suc x t ∙ w.stands;
      gone = bit-suc (bit_and x (x - 1)) t ∙ ap (λ y. bit y t) half ∙ w.gone;
      others = λ a n. away a n;
    }
  where
    half : bit_and x (x - 1) / 2 ≡ bit_and (x / 2) (x / 2 - 1)
    half =
        let q : (x - 1) / 2 ≡ x / 2 - 1 = omega arith in
        let s = and_step x (x - 1) in
        let t : bit_and (x / 2) ((x - 1) / 2) ≡ bit_and (x / 2) (x / 2 - 1) = ap (bit_and (x / 2)) q in
        omega arith

    away : (a : ℕ) → (a ≡ suc t → ⊥) → bit (bit_and x (x - 1)) a ≡ bit x a
    away zero n = let s = and_step x (x - 1) in bit-zero (bit_and x (x - 1)) ∙ sym (bit-zero x ∙ omega arith)
    away (suc a) n = bit-suc (bit_and x (x - 1)) a ∙ ap (λ y. bit y a) half ∙ w.others a (λ q. n (ap suc q)) ∙ sym (bit-suc x a)

-- the place of the lowest 1 is in the word, and x & (x - 1) is x without it
pub lowest : (k x : ℕ) → 0 < x → x < 2 ^ k → (count_trailing_zeros k x < k) × Without x (count_trailing_zeros k x) (bit_and x (x - 1))
unfolding count_trailing_zeros
lowest zero x h l = absurd (omega arith)
lowest (suc k) x h l =
    ⊎_elim
    (λ o. rw o (omega arith, odd-without x o))
    (λ (n : x % 2 ≡ 1 → ⊥).
    let e : x % 2 ≡ 0 = omega arith in
    let r = lowest k (x / 2) (omega arith) (omega (arith, pow-suc 2 k)) in
    rw e (omega (arith, r.0), even-without x (count_trailing_zeros k (x / 2)) h e r.1))
    (same_or_not (x % 2) 1)
