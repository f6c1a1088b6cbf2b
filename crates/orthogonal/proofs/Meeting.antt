-- A mask moved down by each term of a generator: at offset b the places of the mask meet the terms, and each turn of the loop takes one term out.
use Prim.Native.Nat.{ℕ, ◌+◌, ◌-◌, ◌*◌, ◌/◌, ◌%◌, ◌^◌, ◌≤◌, ◌<◌}
use mathlib.Core.Path.{◌≡◌, sym, ap, ◌∙◌}
use native.Mathlib.Nat.{mul_comm, mul-zero, zero-mul}
use native.Mathlib.Omega.{arith}
use lib.Bits.{bit_xor}
use Rattle.bits.specs.Sums.{sum_below, back}
use Rattle.bits.specs.Digits.{bit}
use Rattle.bits.proofs.Sums.{sum-cong, sum-cut, sum-none, sum-one_more}
use Rattle.bits.proofs.Back.{sum-from}
use Rattle.bits.proofs.Digits.{bit-lt, bit_high, bit-of-zero, bit-shift, bit-xor}
use Rattle.bits.proofs.Terms.{Without}

-- how often a place of the mask, from b on, meets a term
unfoldable pub meeting : ℕ → ℕ → ℕ → ℕ
meeting mask terms b = sum_below 32 (λ t. bit terms t * bit mask (b + t))

-- that is the sum over the pairs of a check, of its mask on one parity stream
pub meeting-is : (mask terms b : ℕ) → mask < 2 ^ 32 → b ≤ 32 → meeting mask terms b ≡ sum_below 32 (λ a. bit mask a * back (bit terms) a b)
unfolding meeting
meeting-is mask terms b h l =
    sum-cut 32 (32 - b) (λ t. bit terms t * bit mask (b + t)) (omega arith)
    (λ t w. ap (λ x. bit terms t * x) (bit_high mask 32 (b + t) h (omega arith)) ∙ mul-zero (bit terms t))
    ∙ sum-cong (32 - b) (λ t. mul_comm (bit terms t) (bit mask (b + t)))
    ∙ sym (sum-from 32 b (bit mask) (bit terms) l)

meeting-none : (mask b : ℕ) → meeting mask 0 b ≡ 0
unfolding meeting
meeting-none mask b = sum-none 32 _ (λ t l. ap (λ x. x * bit mask (b + t)) (bit-of-zero t) ∙ zero-mul (bit mask (b + t)))

meeting-less : (mask b : ℕ) {terms t rest : ℕ} → t < 32 → Without terms t rest → meeting mask terms b ≡ meeting mask rest b + bit mask (b + t)
unfolding meeting
meeting-less mask b {terms} {t} {rest} l w =
    sum-one_more 32 t (bit mask (b + t)) (λ q. bit terms q * bit mask (b + q)) (λ q. bit rest q * bit mask (b + q)) l
    (λ q n. ap (λ x. x * bit mask (b + q)) (sym (w.others q n)))
    (rw (w.stands, w.gone) (omega arith))

-- what the loop keeps: the sum so far and the terms that are left make the whole
pub record Kept (mask generator sum rest : ℕ) : Type 0 where
  pub whole : (b : ℕ) → (bit sum b + meeting mask rest b) % 2 ≡ meeting mask generator b % 2

module _ {mask generator : ℕ} where
  pub kept-first : Kept mask generator 0 generator
  kept-first = record { whole = λ b. omega (arith, bit-of-zero b) }

  pub kept_next : {sum rest t left : ℕ} → t < 32 → Without rest t left → Kept mask generator sum rest → Kept mask generator (bit_xor sum (mask / 2 ^ t)) left
  kept_next {sum} {rest} {t} {left} l w k =
      record {
        whole = λ b.
            let e : t + b ≡ b + t = omega arith in
            let x = bit-xor sum (mask / 2 ^ t) b ∙ ap (λ y. (bit sum b + y) % 2) (bit-shift mask t b ∙ ap (bit mask) e) in
            omega (arith, x, meeting-less mask b l w, k.whole b);
      }

  pub kept-last : {sum : ℕ} → mask < 2 ^ 32 → Kept mask generator sum 0
      → (b : ℕ) → b < 32 → bit sum b ≡ sum_below 32 (λ a. bit mask a * back (bit generator) a b) % 2
  kept-last {sum} h k b l =
      let s : bit sum b ≡ meeting mask generator b % 2 = omega (arith, k.whole b, meeting-none mask b, bit-lt sum b) in
      s ∙ ap (λ x. x % 2) (meeting-is mask generator b h (omega arith))
