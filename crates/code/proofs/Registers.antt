-- The registers hold the digits of a stream, and the parity and the frame that they give are the code's.
use Prim.Native.Nat.{ℕ, zero, suc, ◌+◌, ◌-◌, ◌*◌, ◌/◌, ◌%◌, ◌^◌, ◌≤◌, ◌<◌, min}
use mathlib.Core.Path.{◌≡◌, sym, ap, ◌∙◌}
use mathlib.Core.Logic.{⊎_elim}
use mathlib.Core.List.{List}
use native.Mathlib.Nat.{lt_of_lt_of_le, one-mul, add-zero}
use native.Mathlib.Omega.{arith}
use lib.ListN.{length, get_or, replicate}
use lib.Bits.{bit_xor}
use lib.Dec.{ltb}
use lib.Pow.{pow_mono}
use borrow.Author.Tests.{lt-ltb, le-ltb}
use Rattle.bits.specs.Sums.{sum_below, back}
use Rattle.bits.specs.Digits.{bit, from_digits, dot, shift_up}
use Rattle.bits.proofs.Sums.{sum_same, sum-cut, sum_more}
use Rattle.bits.proofs.Lists.{put-length, put-at, zeros-at}
use Rattle.bits.proofs.Back.{back_in, back-out, back-suc}
use Rattle.bits.proofs.Cases.{cond-le, le-or-lt}
use Rattle.bits.proofs.Digits.{bit_le, bit-lt, bit-zero, bit-suc, bit-mod, bit_high, bit-of-zero, bit-shift, bit-xor, bit-from_digits, from_digits-lt, from_digits-same, from_digits-bits}
use Rattle.bits.proofs.Words.{shift-digit, placed-fits}
use Rattle.code.specs.Code.{generator, digit, parity_at, sent_digit, sent_frame}
use Rattle.code.specs.Guarantees.{Guarantees}
use Rattle.code.specs.Registers.{generator_mask, shift_in, history_by, parity_by, digit_by, frame_by, syndromes_by}
use Rattle.code.specs.declared.Card.{Card}

pub in_table : (g : List ℕ) (i j : ℕ) → i < 4 → j < 8 → generator_mask g i j ≡ get_or g (i * 8 + j) 0
unfolding generator_mask
in_table g i j h l = simp (lt-ltb i 4 h, lt-ltb j 8 l)

-- a generator has no term beyond m
pub generator-beyond : (c : Card) → Guarantees c → (i j a : ℕ) → c.m < a → generator c i j a ≡ 0
unfolding generator
generator-beyond c G i j a l = bit_high (get_or c.generators (i * 8 + j) 0) (c.m + 1) a (G.generators_within (i * 8 + j)) (omega arith)

-- ---- a digit taken in
shift-first : (x d : ℕ) → d < 2 → bit (shift_in x d) 0 ≡ d
unfolding shift_in
shift-first x d h = bit-mod (x * 2 + d) 32 0 (omega arith) ∙ bit-zero (x * 2 + d) ∙ omega arith

shift_rest : (x d a : ℕ) → d < 2 → suc a < 32 → bit (shift_in x d) (suc a) ≡ bit x a
unfolding shift_in
shift_rest x d a h l =
    let e : (x * 2 + d) / 2 ≡ x = omega arith in bit-mod (x * 2 + d) 32 (suc a) l ∙ bit-suc (x * 2 + d) a ∙ ap (λ (y : ℕ). bit y a) e

-- the registers before the frame of time t: digit a is that of time t - 1 - a
abbrev pub HistoryBefore : Card → List ℕ → ℕ → List ℕ → Type 0
HistoryBefore c frames t h = (i a : ℕ) → i < c.k → a < 32 → bit (get_or h i 0) a ≡ back (digit frames i) t (suc a)

-- the registers with the frame of time t: digit a is that of time t - a
abbrev pub HistoryWith : Card → List ℕ → ℕ → List ℕ → Type 0
HistoryWith c frames t h = (i a : ℕ) → i < c.k → a < 32 → bit (get_or h i 0) a ≡ back (digit frames i) t a

pub history-start : (c : Card) (frames : List ℕ) → HistoryBefore c frames 0 (replicate 4 0)
history-start c frames i a hi ha =
    ap (λ (x : ℕ). bit x a) (zeros-at 4 i) ∙ bit-of-zero a ∙ sym (back-out (digit frames i) 0 (suc a) (omega arith))

pub history-later : (c : Card) (frames : List ℕ) (t : ℕ) (h : List ℕ) → HistoryWith c frames t h → HistoryBefore c frames (suc t) h
history-later c frames t h w i a hi ha = w i a hi ha ∙ sym (back-suc (digit frames i) t a)

-- a frame taken in leaves the registers as many as they are
pub history-length : (h : List ℕ) (k f : ℕ) → length (history_by h k f) ≡ length h
unfolding history_by
history-length h k f = put-length k _ h

module _ (c : Card) (G : Guarantees c) (frames : List ℕ) (t : ℕ) (h : List ℕ) where
  k-is : min c.k 4 ≡ c.k
  k-is = omega (arith, G.k_most)

  -- one frame more, which has the digits of time t
  pub history-next : c.k ≤ length h → (f : ℕ) → ((i : ℕ) → i < c.k → bit f i ≡ digit frames i t) → HistoryBefore c frames t h
      → HistoryWith c frames t (history_by h c.k f)
  unfolding history_by
  history-next enough f hf H i a hi ha = ap (λ (x : ℕ). bit x a) (put-at c.k (λ b. shift_in (get_or h b 0) (bit f b)) h i hi (omega arith)) ∙ digits a ha
    where
      digits : (a : ℕ) → a < 32 → bit (shift_in (get_or h i 0) (bit f i)) a ≡ back (digit frames i) t a
      digits zero l = shift-first (get_or h i 0) (bit f i) (bit-lt f i) ∙ hf i hi ∙ now
        where
          now : digit frames i t ≡ back (digit frames i) t 0
          now = let e : t ≡ t - 0 = omega arith in ap (digit frames i) e ∙ sym (back_in (digit frames i) t 0 (omega arith))
      digits (suc a) l = shift_rest (get_or h i 0) (bit f i) a (bit-lt f i) l ∙ H i a hi (omega arith)

  -- the parity of the registers is the code's
  pub parity-next : HistoryWith c frames t h → (j : ℕ) → j < c.p → parity_by c.generators h c.k j ≡ parity_at c frames j t
  unfolding parity_by parity_at dot generator
  parity-next H j hj =
      ap (λ (n : ℕ). sum_below n (λ i. dot (generator_mask c.generators i j) (get_or h i 0)) % 2) k-is
      ∙ ap (λ (x : ℕ). x % 2)
      (sum_same c.k (λ i. dot (generator_mask c.generators i j) (get_or h i 0)) (λ i. sum_below (suc c.m) (λ a. generator c i j a * back (digit frames i) t a)) part)
    where
      part : (i : ℕ) → i < c.k → dot (generator_mask c.generators i j) (get_or h i 0) ≡ sum_below (suc c.m) (λ a. generator c i j a * back (digit frames i) t a)
      part i l =
          let g = get_or c.generators (i * 8 + j) 0 in
          let y = get_or h i 0 in
          ap (λ (x : ℕ). dot x y) (in_table c.generators i j (omega (arith, G.k_most)) (omega (arith, G.n_most)))
          ∙ sum-cut 32 (suc c.m) (λ a. bit g a * bit y a) (omega (arith, G.m_most))
          (λ a w. ap (λ (x : ℕ). x * bit y a) (generator-beyond c G i j a (omega arith)) ∙ omega arith)
          ∙ sum_same (suc c.m) (λ a. bit g a * bit y a) (λ a. bit g a * back (digit frames i) t a) (λ a q. ap (λ (x : ℕ). bit g a * x) (H i a l (omega (arith, G.m_most))))

-- ---- the frame that is sent

pub parity_by-le : (g h : List ℕ) (k j : ℕ) → parity_by g h k j ≤ 1
unfolding parity_by
parity_by-le g h k j = omega arith

module _ (g h : List ℕ) (k f : ℕ) where
  digit_by-lt : (s : ℕ) → digit_by g h k f s < 2
  unfolding digit_by
  digit_by-lt s =
      let l = cond-le (ltb s (min k 4)) (bit f s) (parity_by g h k (s - min k 4)) 1 (bit_le f s) (parity_by-le g h k (s - min k 4)) in
      omega arith

  frame-lt : (p : ℕ) → frame_by g h k p f < 2 ^ 8
  unfolding frame_by
  frame-lt p =
      lt_of_lt_of_le (from_digits-lt (min k 4 + min p (8 - min k 4)) (digit_by g h k f) (λ s l. digit_by-lt s))
      (pow_mono {i = min k 4 + min p (8 - min k 4)} {j = 8} (omega arith))

  -- a frame is a byte
  pub frame-fits : (p : ℕ) {x : ℕ} → x ≡ frame_by g h k p f → x < 2 ^ 8
  frame-fits p e = omega (arith, frame-lt p)

  -- its information digits
  pub frame-start : f % shift_up 1 (min k 4) ≡ from_digits (min k 4 + 0) (digit_by g h k f)
  unfolding digit_by
  frame-start =
      ap (λ (x : ℕ). f % x) (shift-digit 1 (min k 4) (omega arith) (omega arith) ∙ one-mul (2 ^ min k 4))
      ∙ sym (from_digits-bits (min k 4) f)
      ∙ from_digits-same (min k 4) (bit f) (digit_by g h k f) (λ s l. rw (lt-ltb s (min k 4) l))
      ∙ ap (λ (n : ℕ). from_digits n (digit_by g h k f)) (sym (add-zero (min k 4)))

  module _ (j : ℕ) (l : min k 4 + j < 32) where
    -- one parity digit more
    pub frame-more : from_digits (min k 4 + j) (digit_by g h k f) + shift_up (parity_by g h k j) (min k 4 + j) ≡ from_digits (min k 4 + (j + 1)) (digit_by g h k f)
    unfolding from_digits digit_by
    frame-more =
        let n = min k 4 + j in
        let e : n - min k 4 ≡ j = omega arith in
        let a : min k 4 + (j + 1) ≡ n + 1 = omega arith in
        ap (λ (x : ℕ). from_digits n (digit_by g h k f) + x) (shift-digit (parity_by g h k j) n (omega (arith, parity_by-le g h k j)) l)
        ∙ sym (ap (λ (x : ℕ). sum_below x (λ s. digit_by g h k f s * 2 ^ s)) a ∙ sum_more n (λ s. digit_by g h k f s * 2 ^ s) ∙ rw (le-ltb n (min k 4) (omega arith), e))

    pub frame-more-fits : from_digits (min k 4 + j) (digit_by g h k f) + shift_up (parity_by g h k j) (min k 4 + j) < 2 ^ 32
    frame-more-fits =
        placed-fits (from_digits (min k 4 + j) (digit_by g h k f)) (parity_by g h k j) (min k 4 + j)
        (from_digits-lt (min k 4 + j) (digit_by g h k f) (λ s w. digit_by-lt s)) (omega (arith, parity_by-le g h k j)) l

  -- a syndrome is the sum of the parity digit that is received and the one that is sent
  syndrome-digit : (p j : ℕ) → j < min p (8 - min k 4) → bit (syndromes_by g h k p f) j ≡ (bit f (min k 4 + j) + parity_by g h k j) % 2
  unfolding syndromes_by frame_by digit_by
  syndrome-digit p j l =
      let n = min k 4 + j in
      let e : n - min k 4 ≡ j = omega arith in
      bit-shift (bit_xor f (frame_by g h k p f)) (min k 4) j
      ∙ bit-xor f (frame_by g h k p f) n
      ∙ ap (λ (x : ℕ). (bit f n + x) % 2)
      (bit-from_digits (min k 4 + min p (8 - min k 4)) (digit_by g h k f) (λ s w. digit_by-lt s) n (omega arith) ∙ rw (le-ltb n (min k 4) (omega arith), e))

pub syndrome-bit : (c : Card) → Guarantees c → (h : List ℕ) (f j : ℕ) → j < c.p
    → bit (syndromes_by c.generators h c.k c.p f) j ≡ (bit f (c.k + j) + parity_by c.generators h c.k j) % 2
syndrome-bit c G h f j l =
    let e : min c.k 4 ≡ c.k = omega (arith, G.k_most) in
    syndrome-digit c.generators h c.k f c.p j (omega (arith, G.k_most, G.n_most))
    ∙ ap (λ (n : ℕ). (bit f (n + j) + parity_by c.generators h c.k j) % 2) e

-- the frame of the registers is the code's
module _ (c : Card) (G : Guarantees c) (frames : List ℕ) (t : ℕ) (h : List ℕ) (f : ℕ) (hf : (i : ℕ) → i < c.k → bit f i ≡ digit frames i t) (H : HistoryWith c frames t h) where
  digit-next : (s : ℕ) → s < c.k + c.p → digit_by c.generators h c.k f s ≡ sent_digit c frames t s
  unfolding digit_by sent_digit
  digit-next s l =
      ⊎_elim
      (λ (w : c.k ≤ s).
      rw (le-ltb s (min c.k 4) (omega arith), le-ltb s c.k w)
      (ap (λ (n : ℕ). parity_by c.generators h c.k (s - n)) (k-is c G frames t h) ∙ parity-next c G frames t h H (s - c.k) (omega arith)))
      (λ (w : s < c.k). rw (lt-ltb s (min c.k 4) (omega (arith, G.k_most)), lt-ltb s c.k w) (hf s w))
      (le-or-lt c.k s)

  pub frame-next : frame_by c.generators h c.k c.p f ≡ sent_frame c frames t
  unfolding frame_by sent_frame
  frame-next =
      let n-is : min c.k 4 + min c.p (8 - min c.k 4) ≡ c.k + c.p = omega (arith, G.k_most, G.n_most) in
      ap (λ (n : ℕ). from_digits n (digit_by c.generators h c.k f)) n-is
      ∙ from_digits-same (c.k + c.p) (digit_by c.generators h c.k f) (sent_digit c frames t) digit-next
