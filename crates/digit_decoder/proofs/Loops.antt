-- The loops on the registers: a stream's share of the sums, one term of the generator after the other, and the frame, one digit after the other.
use Prim.Native.Nat.{ℕ, ◌-◌, ◌*◌, ◌/◌, ◌+◌, ◌^◌, ◌≤◌, ◌<◌}
use mathlib.Core.Path.{◌≡◌, sym, ap, ap₂, ◌∙◌}
use mathlib.Core.List.{List}
use native.Mathlib.Omega.{arith}
use lib.Bits.{bit_xor, xor_lt}
use lib.Count.{ones, count_leading_zeros}
use lib.Dec.{ltb}
use lib.ListN.{get_or}
use lib.Pow.{pow_mono}
use Rattle.bits.specs.Sums.{xor_below}
use Rattle.bits.specs.Digits.{bit, from_digits, shift_up}
use Rattle.bits.proofs.Cases.{cond-le}
use Rattle.bits.proofs.Digits.{bit_le, bit_high, from_digits-lt}
use Rattle.std.proofs.lemmas.Nat.{leading_length}
use Rattle.bits.proofs.Words.{xor-more, xor-cut, mask-times-lt, placed-fits, placed-more}
use Rattle.vote.specs.Voting.{stream_ones_by}
use Rattle.digit_decoder.specs.Held.{share_by, sums_by, others_by, own_of, entering_by, majority_digit, decide_digit_by, decide_frame_by}

-- ---- a stream's share of the sums

-- two words added up, taken or not, stay a word
pub share-lt : (x y d : ℕ) → x < 2 ^ 32 → y < 2 ^ 32 → d < 2 → bit_xor x y * d < 2 ^ 32
share-lt x y d h k l = mask-times-lt 32 (bit_xor x y) d (xor_lt 32 x y h k) l

module _ (g r d : ℕ) where
  -- what term l of the generator adds
  abbrev pub share_of : ℕ → ℕ
  share_of l = bit_xor (shift_up r l) (d / 2 ^ (32 - l)) * bit g l

  -- one turn
  pub share-more : (l : ℕ) {sum term up down : ℕ} → sum ≡ xor_below l share_of → term ≡ bit g l → up ≡ shift_up r l → down ≡ d / 2 ^ (32 - l)
      → bit_xor sum (bit_xor up down * term) ≡ xor_below (l + 1) share_of
  share-more l e q u w = ap₂ bit_xor e (ap₂ ◌*◌ (ap₂ bit_xor u w) q) ∙ sym (xor-more l share_of)

  -- the end: the generator has no term more
  pub share-end : (l : ℕ) {sum : ℕ} → g < 2 ^ 32 → l ≡ 32 - count_leading_zeros 32 g → sum ≡ xor_below l share_of → sum ≡ share_by g r d
  unfolding share_by
  share-end l fits top e =
      let m = leading_length 32 g fits in
      let same : m.0 ≡ l = omega (arith, m.1) in
      let below : g < 2 ^ l = rw same at m.2 in
      e ∙ sym (xor-cut 32 l share_of (omega arith) (λ b k. ap (λ n. bit_xor (shift_up r b) (d / 2 ^ (32 - b)) * n) (bit_high g l b below k) ∙ omega arith))

-- ---- the frame as it is decided
pub digit-le : (voting one own : ℕ) → own ≤ 1 → majority_digit voting one own ≤ 1
unfolding majority_digit
digit-le voting one own h = cond-le (ltb (ones voting) (2 * ones one)) 1 _ 1 (omega arith) (cond-le (ltb (2 * ones one) (ones voting)) 0 own 1 (omega arith) h)

module _ (g checks voters r sums : List ℕ) (p : ℕ) where
  pub decided-lt : (i : ℕ) → decide_digit_by g checks voters r sums p i < 2
  unfolding decide_digit_by
  decided-lt i =
      let l = digit-le (get_or voters i 0) (stream_ones_by checks i (get_or voters i 0) (entering_by g r sums p i) p) (own_of r i) (bit_le _ 0) in omega arith

  -- one stream more
  module _ (i : ℕ) {own voting one d up frame : ℕ} {words : List ℕ} (h : i < 32) (so_far : frame ≡ from_digits i (decide_digit_by g checks voters r sums p))
      (eo : own ≡ own_of r i) (ew : words ≡ others_by sums g own i p) (ev : voting ≡ get_or voters i 0) (en : one ≡ stream_ones_by checks i voting words p)
      (ed : d ≡ majority_digit voting one own) (eu : up ≡ shift_up d i) where
    digit-is : d ≡ decide_digit_by g checks voters r sums p i
    unfolding decide_digit_by entering_by
    digit-is = cc (eo, ew, ev, en, ed)

    pub frame-more : (frame + up < 2 ^ 32) × (frame + up ≡ from_digits (i + 1) (decide_digit_by g checks voters r sums p))
    frame-more =
        let le : frame < 2 ^ i = rw so_far (from_digits-lt i _ (λ a l. decided-lt a)) in
        let ld : d < 2 = rw digit-is (decided-lt i) in
        rw eu (placed-fits frame d i le ld h, placed-more frame d i le ld h _ so_far digit-is)

-- a frame of at most four digits is a byte
pub decided-fits : (g checks voters r d : List ℕ) (k p : ℕ) → k ≤ 4 → decide_frame_by g checks voters r d k p < 2 ^ 8
unfolding decide_frame_by
decided-fits g checks voters r d k p l =
    let below = from_digits-lt k _ (λ i l. decided-lt g checks voters r (sums_by g r d k p) p i) in
    omega (arith, below, pow_mono {i = k} {j = 4} l)
