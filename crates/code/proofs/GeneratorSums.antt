-- The sum of the generators of some of a card's information streams: its digits, which are none beyond m, and that of no stream.
use Prim.Native.Nat.{ℕ, ◌+◌, ◌-◌, ◌*◌, ◌%◌, ◌^◌, ◌<◌, min}
use mathlib.Core.Path.{◌≡◌, sym, ap, ◌∙◌}
use mathlib.Core.Logic.{⊎_elim}
use mathlib.Core.List.{List}
use native.Mathlib.Nat.{zero-mul}
use native.Mathlib.Omega.{arith}
use lib.ListN.{get_or, replicate}
use lib.Seq.{ext_get_or}
use lib.Dec.{ltb}
use lib.Pow.{pow_pos}
use Rattle.bits.specs.Sums.{sum_below, xor_below}
use Rattle.bits.specs.Digits.{bit}
use Rattle.bits.proofs.Sums.{sum_same, sum-none}
use Rattle.bits.proofs.Lists.{part_length, part_at, part-rest, zeros-at}
use Rattle.bits.proofs.Cases.{cond-le, le-or-lt}
use Rattle.bits.proofs.Digits.{bit-lt, bit-of-zero, bit-masks}
use Rattle.bits.proofs.Words.{xor-cut, masks-lt}
use Rattle.code.specs.Code.{generator}
use Rattle.code.specs.Guarantees.{Guarantees}
use Rattle.code.specs.Registers.{generator_mask, generator_sum, feedback_by}
use Rattle.code.specs.declared.Card.{Card}
use Rattle.code.proofs.Registers.{in_table, generator-beyond}

pub sum_of-none : (g : List ℕ) (k j : ℕ) → generator_sum g k 0 j ≡ 0
unfolding generator_sum xor_below
sum_of-none g k j = xor-cut k 0 _ (omega arith) (λ i l. ap (λ (x : ℕ). generator_mask g i j * x) (bit-of-zero i) ∙ omega arith)

-- no error changes nothing
pub feedback-none : (g : List ℕ) (k p : ℕ) → replicate 8 0 ≡ feedback_by g k p 0
unfolding feedback_by
feedback-none g k p =
    ext_get_or 0 (replicate 8 0) _ (sym (part_length (generator_sum g k 0) (replicate 8 0) (min p 8) (omega arith)))
    (λ j l.
    zeros-at 8 j
    ∙ ⊎_elim (λ h. sym (part-rest (generator_sum g k 0) (replicate 8 0) (min p 8) j h ∙ zeros-at 8 j))
    (λ h. sym (part_at (generator_sum g k 0) (replicate 8 0) (min p 8) j h ∙ sum_of-none g k j))
    (le-or-lt (min p 8) j))

-- the changes of parity stream j
pub feedback-at : (g : List ℕ) (k p e j : ℕ) → j < min p 8 → get_or (feedback_by g k p e) j 0 ≡ generator_sum g k e j
unfolding feedback_by
feedback-at g k p e j l = part_at (generator_sum g k e) (replicate 8 0) (min p 8) j l

module _ (c : Card) (G : Guarantees c) (x j : ℕ) where
  pub sum-bit : (a : ℕ) → j < c.p → bit (generator_sum c.generators c.k x j) a ≡ sum_below c.k (λ i. generator c i j a * bit x i) % 2
  unfolding generator_sum generator
  sum-bit a hj =
      bit-masks c.k (λ i. generator_mask c.generators i j) (bit x) (bit-lt x) a
      ∙ ap (λ (n : ℕ). n % 2)
      (sum_same c.k _ _ (λ i l. ap (λ (g : ℕ). bit g a * bit x i) (in_table c.generators i j (omega (arith, G.k_most)) (omega (arith, G.n_most)))))

  pub sum-beyond : (a : ℕ) → c.m < a → sum_below c.k (λ i. generator c i j a * bit x i) ≡ 0
  sum-beyond a l = sum-none c.k _ (λ i li. ap (λ (g : ℕ). g * bit x i) (generator-beyond c G i j a l) ∙ zero-mul (bit x i))

  pub sum-within : generator_sum c.generators c.k x j < 2 ^ (c.m + 1)
  unfolding generator_sum
  sum-within = masks-lt (c.m + 1) c.k (λ i. generator_mask c.generators i j) (bit x) mask-within (bit-lt x)
    where
      mask-within : (i : ℕ) → generator_mask c.generators i j < 2 ^ (c.m + 1)
      mask-within i =
          unfold generator_mask in
          (let most = 2 ^ (c.m + 1) - 1 in
          let row = cond-le (ltb j 8) (get_or c.generators (i * 8 + j) 0) 0 most (omega (arith, G.generators_within (i * 8 + j))) (omega arith) in
          let all = cond-le (ltb i 4) _ 0 most row (omega arith) in
          omega (arith, all, pow_pos (c.m + 1)))
