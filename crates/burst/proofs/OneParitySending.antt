-- The burst sender of one parity stream: where it starts, and a frame of it.
use Prim.Native.Nat.{ℕ, ◌+◌, ◌-◌, ◌*◌, ◌/◌, ◌%◌, ◌^◌, ◌<◌}
use mathlib.Core.Path.{◌≡◌, sym, ap, ◌∙◌}
use mathlib.Core.List.{List}
use native.Mathlib.Nat.{le_refl, mod-lt}
use native.Mathlib.Numerals.{add-one}
use native.Mathlib.Omega.{arith}
use lib.ListN.{get_or}
use lib.Bits.{bit_xor}
use lib.Pow.{pow_pos}
use borrow.Author.Tests.{lt-ltb, le-ltb}
use Rattle.bits.specs.Digits.{bit, from_digits}
use Rattle.bits.proofs.Sums.{sum_step}
use Rattle.bits.proofs.Lists.{zeros-after}
use Rattle.bits.proofs.Digits.{bit-of-zero, from_digits-same, from_digits-bits}
use Rattle.code.specs.Code.{digit, parity_at, with_tail, sent_digit, sent_frame}
use Rattle.code.specs.Guarantees.{Guarantees}
use Rattle.code.specs.Registers.{generator_sum}
use Rattle.code.specs.declared.Card.{Card}
use Rattle.burst.specs.Sums.{HasStreamSums}
use Rattle.burst.specs.Sent.{ReadyWith}
use Rattle.burst.proofs.Coming.{coming-start, register-parity, register-next}

-- a frame of one parity stream: the information digits, and above them the parity
frame_is : (c : Card) → c.p ≡ 1 → (frames : List ℕ) (t : ℕ) {f parity : ℕ} → f ≡ get_or frames t 0 → parity ≡ parity_at c frames 0 t
    → f % 2 ^ c.k + parity * 2 ^ c.k ≡ sent_frame c frames t
unfolding sent_frame from_digits
frame_is c one frames t {f} {parity} hf hp =
    sum_step c.k (λ s. sent_digit c frames t s * 2 ^ s) (sym (from_digits-bits c.k f) ∙ from_digits-same c.k (bit f) (sent_digit c frames t) low)
    (ap (λ x. x * 2 ^ c.k) (hp ∙ high))
    ∙ ap (λ p. from_digits (c.k + p) (sent_digit c frames t)) (sym one)
  where
    low : (s : ℕ) → s < c.k → bit f s ≡ sent_digit c frames t s
    low s l = unfold sent_digit digit in rw (lt-ltb s c.k l) (ap (λ x. bit x s) hf)

    high : parity_at c frames 0 t ≡ sent_digit c frames t c.k
    high = unfold sent_digit in (let e : c.k - c.k ≡ 0 = omega arith in rw (le-ltb c.k c.k (le_refl c.k), e))

-- before the first frame
pub ready-first : (c : Card) (input sums : List ℕ) (k : ℕ) → c.p ≡ 1 → k ≡ c.k → HasStreamSums c.generators c.k 0 (2 ^ c.k) sums → ReadyWith c input 0 sums k 0
ready-first c input sums k one e S = record { one = one; k_is = e; sums_are = S; coming_held = λ a. bit-of-zero a ∙ sym (coming-start c (with_tail c input) 0 a) }

-- the frame that is sent for the information frame f, zero in the tail
pub ready-next : (c : Card) → Guarantees c → (input : List ℕ) (t : ℕ) {f sum coming x : ℕ} {sums : List ℕ} {k : ℕ} → f ≡ get_or input t 0
    → sum ≡ get_or sums (f % 2 ^ k) 0 → x ≡ f % 2 ^ k + bit_xor coming sum % 2 * 2 ^ k
    → ReadyWith c input t sums k coming → (x ≡ sent_frame c (with_tail c input) t) × ReadyWith c input (t + 1) sums k (bit_xor coming sum / 2)
unfolding with_tail
ready-next c G input t {f} {sum} {coming} {x} {sums} {k} hf hs hx R =
    let frames = with_tail c input in
    let now : f ≡ get_or frames t 0 = hf ∙ sym (zeros-after input c.m t) in
    let hsum : sum ≡ generator_sum c.generators c.k (f % 2 ^ c.k) 0 = (rw R.k_is at hs) ∙ R.sums_are (f % 2 ^ c.k) (mod-lt f (pow_pos c.k)) in
    let e : x ≡ f % 2 ^ c.k + bit_xor coming sum % 2 * 2 ^ c.k = rw R.k_is at hx in (
      e ∙ frame_is c R.one frames t now (register-parity c G frames t f 0 G.p_least coming sum now hsum R.coming_held),
      record {
        one = R.one;
        k_is = R.k_is;
        sums_are = R.sums_are;
        coming_held = rw add-one (register-next c G frames t f 0 G.p_least coming sum now hsum R.coming_held);
      },
    )
