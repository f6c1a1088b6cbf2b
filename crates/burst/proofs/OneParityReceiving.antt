-- The two registers of one parity stream in one word: a frame put into the word, and errors taken out of it, do to the two what they do to registers
-- in arrays.
use Prim.Native.Nat.{ℕ, zero, suc, ◌+◌, ◌*◌, ◌/◌, ◌%◌, ◌^◌, ◌≤◌, ◌<◌}
use mathlib.Core.Path.{◌≡◌, refl, sym, ap, ap₂, ◌∙◌, subst}
use mathlib.Core.Bool.{Bool, true, false, ◌||◌, true≢false}
use mathlib.Core.Logic.{◌⊎◌, inl, inr}
use mathlib.Core.List.{List, [], ◌∷◌}
use native.Mathlib.Nat.{lt_of_lt_of_le, zero-div, zero-mod, mod-lt, mod-eq_of_lt, div-eq_of_lt, zero-lt-suc, add-zero, add_comm, add_assoc, add-mul, mul_assoc, pow-succ', div-add-mod', div-one}
use native.Mathlib.Numerals.{add-one}
use native.Mathlib.Omega.{arith}
use lib.ListN.{length, get_or, set, replicate}
use lib.Bits.{bit_xor, block_half, xor_comm, xor_zero_r, xor_shifted, xor_block, xor_shr, xor_mod}
use lib.Count.{ones}
use lib.Dec.{leb}
use borrow.Author.Tests.{leb-false}
use lib.Pow.{pow_pos, pow_mono, shl-shr, split, high, low, shl_exact}
use Rattle.bits.specs.Sums.{sum_below, up_to}
use Rattle.bits.specs.Digits.{shift_up, any_beyond}
use Rattle.bits.proofs.Digits.{bit-zero, bit-xor, digits_lt, ones-sum}
use Rattle.bits.proofs.Words.{shift-digit}
use Rattle.code.specs.Checks.{count}
use Rattle.code.specs.Guarantees.{Guarantees}
use Rattle.code.specs.Registers.{generator_sum}
use Rattle.code.specs.declared.Card.{Card}
use Rattle.code.proofs.GeneratorSums.{sum-within}
use Rattle.vote.specs.Voting.{decide_by_all}
use Rattle.vote.proofs.Voting.{decide-all-none}
use Rattle.burst_vote.proofs.FewOnes.{decide-few}
use Rattle.burst.specs.Sums.{HasSums}
use Rattle.burst.specs.Held.{Before, Handing, OneParity}
use Rattle.burst.proofs.Deciding.{all-lt}
use Rattle.burst.proofs.HandingOut.{hand-turn}
use Rattle.burst.proofs.Waiting.{start, wait-more}
use Rattle.burst.specs.Registers.{registers, parity_with, coming_next, syndromes_next, TakenIn, taken_out, Corrected, corrected_by, AtLeast, AllWithin, in_one, put_of}

-- twice a power of two, shifted up within the word
pub twice-is : (k w : ℕ) → k + 2 ≤ w → 2 * 2 ^ k % 2 ^ w ≡ 2 ^ (k + 1)
twice-is k w h = shl_exact {a = 2} 2 k w (omega arith) (omega arith) ∙ sym (pow-succ' 2 k) ∙ ap (λ n. 2 ^ n) (sym (add-one k))

-- a frame of k + 1 digits is in the table
pub in_table : (k f : ℕ) → k ≤ 4 → f < 2 ^ (k + 1) → f < 32
in_table k f h l = omega (arith, pow_mono {i = k + 1} {j = 5} (omega arith))

-- frames of which none has a digit beyond its streams
neither : (a b : Bool) → (a || b) ≡ false → (a ≡ false) × (b ≡ false)
neither true b e = absurd (true≢false e)
neither false b e = (refl, e)

pub all-within : (n : ℕ) (frames : List ℕ) → any_beyond n frames ≡ false → AllWithin n frames
unfolding any_beyond
all-within n [] e t l = absurd (omega arith)
all-within n (f ∷ frames) e zero l = leb-false (2 ^ n) f (neither (leb (2 ^ n) f) (any_beyond n frames) e).0
all-within n (f ∷ frames) e (suc t) l = all-within n frames (neither (leb (2 ^ n) f) (any_beyond n frames) e).1 t (omega arith)

-- ---- the two parts of a word, the low one of m + 1 places
odd-apart : (y m : ℕ) → y * 2 ^ m ≡ y / 2 * 2 ^ (m + 1) + y % 2 * 2 ^ m
odd-apart y m =
    ap (λ x. x * 2 ^ m) (sym (div-add-mod' y 2))
    ∙ add-mul (y / 2 * 2) (y % 2) (2 ^ m)
    ∙ ap (λ x. x + y % 2 * 2 ^ m) (mul_assoc (y / 2) 2 (2 ^ m) ∙ ap (λ x. y / 2 * x) (sym (pow-succ' 2 m) ∙ ap (λ n. 2 ^ n) (sym (add-one m))))

module _ (high_part low_part m : ℕ) (l : low_part < 2 ^ (m + 1)) where
  half-low : low_part / 2 < 2 ^ m
  half-low = let l' : low_part < 2 ^ suc m = rw add-one at l in omega (arith, l')

  -- a place further, with x put in from place m on
  moved_in : (x : ℕ) → bit_xor ((high_part * 2 ^ (m + 1) + low_part) / 2) (x * 2 ^ m)
      ≡ bit_xor high_part x / 2 * 2 ^ (m + 1) + (bit_xor high_part x % 2 * 2 ^ m + low_part / 2)
  moved_in x =
      let y = bit_xor high_part x in
      let half : (high_part * 2 ^ (m + 1) + low_part) / 2 ≡ high_part * 2 ^ m + low_part / 2 = rw add-one (block_half high_part m low_part) in
      ap₂ bit_xor half (sym (add-zero (x * 2 ^ m)))
      ∙ xor_block m high_part x (low_part / 2) 0 half-low (pow_pos m)
      ∙ ap₂ ◌+◌ (odd-apart y m) (xor_zero_r (low_part / 2))
      ∙ add_assoc _ _ _

  moved-lt : (y : ℕ) → y % 2 * 2 ^ m + low_part / 2 < 2 ^ (m + 1)
  moved-lt y = rw (add_comm (y % 2 * 2 ^ m) (low_part / 2)) (digits_lt (low_part / 2) (y % 2) m half-low (mod-lt y (zero-lt-suc 1)))

  -- the parts after that
  moved-high : (x : ℕ) → bit_xor ((high_part * 2 ^ (m + 1) + low_part) / 2) (x * 2 ^ m) / 2 ^ (m + 1) ≡ bit_xor high_part x / 2
  moved-high x = ap (λ z. z / 2 ^ (m + 1)) (moved_in x) ∙ high (bit_xor high_part x / 2) (m + 1) (moved-lt (bit_xor high_part x))

  moved-low : (x : ℕ) → bit_xor ((high_part * 2 ^ (m + 1) + low_part) / 2) (x * 2 ^ m) % 2 ^ (m + 1) ≡ bit_xor high_part x % 2 * 2 ^ m + low_part / 2
  moved-low x = ap (λ z. z % 2 ^ (m + 1)) (moved_in x) ∙ low (bit_xor high_part x / 2) (m + 1) (moved-lt (bit_xor high_part x))

-- ---- a digit added at place 0
higher-same : (x y q : ℕ) → q < 2 → bit_xor x (bit_xor y q) / 2 ≡ bit_xor x y / 2
higher-same x y q h =
    let z : q / 2 ≡ 0 = omega arith in
    xor_shr x (bit_xor y q) 1
    ∙ ap (bit_xor (x / 2)) (xor_shr y q 1 ∙ ap (bit_xor (y / 2)) z ∙ xor_zero_r (y / 2))
    ∙ sym (xor_shr x y 1)

lowest : (x y : ℕ) → bit_xor x y % 2 ≡ (x % 2 + y % 2) % 2
lowest x y = sym (bit-zero (bit_xor x y)) ∙ bit-xor x y 0 ∙ ap₂ (λ a b. (a + b) % 2) (bit-zero x) (bit-zero y)

regrouped : (a b c : ℕ) → (a + (b + c % 2) % 2) % 2 ≡ ((a + b) % 2 + c) % 2
regrouped a b c = omega arith

lowest-added : (x y q : ℕ) → bit_xor x (bit_xor y (q % 2)) % 2 ≡ bit_xor (bit_xor x y) q % 2
lowest-added x y q =
    lowest x (bit_xor y (q % 2))
    ∙ ap (λ z. (x % 2 + z) % 2) (lowest y (q % 2))
    ∙ regrouped (x % 2) (y % 2) (q % 2)
    ∙ sym (lowest (bit_xor x y) q ∙ ap (λ z. (z + q % 2) % 2) (lowest x y))

-- ---- a frame put into the word is taken into its registers
module _ (sums : List ℕ) (k m f word : ℕ) (hm : m ≤ 31) {next : ℕ} (e : next ≡ bit_xor (word / 2) (put_of sums k m f)) where
  into-parts : next ≡ bit_xor ((word / 2 ^ (m + 1) * 2 ^ (m + 1) + word % 2 ^ (m + 1)) / 2) (put_of sums k m f)
  into-parts = e ∙ ap (λ w. bit_xor (w / 2) (put_of sums k m f)) (sym (split word (m + 1)))

  coming_is : next / 2 ^ (m + 1) ≡ coming_next (sums ∷ []) (in_one m word).coming k f 0
  unfolding put_of coming_next parity_with
  coming_is =
      let q = f / 2 ^ k % 2 in
      ap (λ w. w / 2 ^ (m + 1)) into-parts
      ∙ moved-high (word / 2 ^ (m + 1)) (word % 2 ^ (m + 1)) m (mod-lt word (pow_pos (m + 1))) (bit_xor (get_or sums (f % 2 ^ k) 0) q)
      ∙ higher-same (word / 2 ^ (m + 1)) (get_or sums (f % 2 ^ k) 0) q (mod-lt _ (zero-lt-suc 1))

  syndromes_is : next % 2 ^ (m + 1) ≡ syndromes_next (sums ∷ []) (in_one m word).coming (in_one m word).syndromes k m f 0
  unfolding put_of syndromes_next parity_with
  syndromes_is =
      let high_part = word / 2 ^ (m + 1) in
      let low_part = word % 2 ^ (m + 1) in
      let sum = get_or sums (f % 2 ^ k) 0 in
      let d = bit_xor (bit_xor high_part sum) (f / 2 ^ k) % 2 in
      let hd : d < 2 = mod-lt _ (zero-lt-suc 1) in
      let hl = mod-lt word (pow_pos (m + 1)) in
      ap (λ w. w % 2 ^ (m + 1)) into-parts
      ∙ moved-low high_part low_part m hl (bit_xor sum (f / 2 ^ k % 2))
      ∙ ap (λ x. x * 2 ^ m + low_part / 2) (lowest-added high_part sum (f / 2 ^ k))
      ∙ sym (xor_shifted d m (low_part / 2) (half-low high_part low_part m hl))
      ∙ xor_comm (d * 2 ^ m) (low_part / 2)
      ∙ ap (bit_xor (low_part / 2)) (sym (shift-digit d m hd (omega arith)))
      ∙ ap (λ x. bit_xor (low_part / 2) (shift_up (bit_xor (bit_xor high_part sum) x % 2) m)) (sym (div-one (f / 2 ^ k)))

  pub taken-into : TakenIn (sums ∷ []) k 1 m f (in_one m word) (in_one m next) (next % 2 ^ (m + 1))
  unfolding up_to
  taken-into =
      record {
        coming_is = ap (λ x. x ∷ replicate 7 0) coming_is;
        syndromes_is = ap (λ x. x ∷ replicate 7 0) syndromes_is;
        none_held = λ z j l.
            let n : j ≡ 0 = omega arith in
            ap (syndromes_next (sums ∷ []) (in_one m word).coming (in_one m word).syndromes k m f) n ∙ sym syndromes_is ∙ z;
      }

-- ---- errors taken out of the word are taken out of its syndromes
above_same : (word s m : ℕ) → s < 2 ^ (m + 1) → bit_xor word s / 2 ^ (m + 1) ≡ word / 2 ^ (m + 1)
above_same word s m l = xor_shr word s (m + 1) ∙ ap (bit_xor (word / 2 ^ (m + 1))) (div-eq_of_lt l) ∙ xor_zero_r (word / 2 ^ (m + 1))

within-taken : (word s m : ℕ) → s < 2 ^ (m + 1) → bit_xor word s % 2 ^ (m + 1) ≡ bit_xor (word % 2 ^ (m + 1)) s
within-taken word s m l = xor_mod word s (m + 1) ∙ ap (bit_xor (word % 2 ^ (m + 1))) (mod-eq_of_lt l)

-- ---- one frame more under a card with one parity stream

-- the errors are fed back, or there are none
abbrev pub FedBack : ℕ → List ℕ → ℕ → ℕ → ℕ → Type 0
FedBack word puts m errors next = ((errors ≡ 0) × (next ≡ word)) ⊎ (next ≡ bit_xor word (get_or puts errors 0 / 2 ^ m))

module _ (c : Card) (puts : List ℕ) (O : OneParity c puts) where
  sums_are : HasSums c.generators c.k c.p (2 ^ c.k) (O.sums ∷ [])
  sums_are j l x lx =
      let z : j ≡ 0 = omega (arith, O.one) in
      subst (λ j. get_or (get_or (O.sums ∷ []) j []) x 0 ≡ generator_sum c.generators c.k x j) (sym z) (O.sums_are x lx)

  -- what the errors would put in, a place for m lower, is their generators
  errors-out : (errors : ℕ) → errors < 2 ^ c.k → get_or puts errors 0 / 2 ^ c.m ≡ get_or O.sums errors 0
  unfolding put_of
  errors-out errors l =
      let w : errors < 2 ^ (c.k + 1) = lt_of_lt_of_le l (pow_mono {i = c.k} {j = c.k + 1} (omega arith)) in
      ap (λ x. x / 2 ^ c.m) (O.puts_are errors w)
      ∙ shl-shr _ c.m
      ∙ ap₂ (λ x q. bit_xor (get_or O.sums x 0) (q % 2)) (mod-eq_of_lt l) (div-eq_of_lt l)
      ∙ xor_zero_r _

  -- the syndromes that the next word holds are those of this one without the errors, and the parity digits to come are the same
  fed-into : {word next errors : ℕ} → errors ≡ decide_by_all c.counts c.checks (in_one c.m word).syndromes c.k 1 → FedBack word puts c.m errors next
      → Corrected (O.sums ∷ []) c.counts c.checks c.k 1 (in_one c.m word) (in_one c.m next) errors
  unfolding taken_out up_to
  fed-into {word} {next} {errors} e (inl w) =
      record {
        errors_are = λ long. e;
        errors_lt = omega (arith, w.0);
        coming_same = ap (λ x. x / 2 ^ (c.m + 1) ∷ replicate 7 0) w.1;
        after_is = inl (w.0, ap (λ x. x % 2 ^ (c.m + 1) ∷ replicate 7 0) w.1);
      }
  fed-into {word} {next} {errors} e (inr w) =
      let s = get_or O.sums errors 0 in
      let small : errors < 2 ^ c.k = rw e (all-lt c.counts c.checks (in_one c.m word).syndromes c.k 1 O.guaranteed.k_most) in
      let l : s < 2 ^ (c.m + 1) = rw (O.sums_are errors small) (sum-within c O.guaranteed errors 0) in
      let w' : next ≡ bit_xor word s = w ∙ ap (bit_xor word) (errors-out errors small) in
      record {
        errors_are = λ long. e;
        errors_lt = lt_of_lt_of_le small (pow_mono {i = c.k} {j = 4} O.guaranteed.k_most);
        coming_same = ap (λ x. x ∷ replicate 7 0) (ap (λ x. x / 2 ^ (c.m + 1)) w' ∙ above_same word s c.m l);
        after_is = inr (ap (λ x. x ∷ replicate 7 0) (ap (λ x. x % 2 ^ (c.m + 1)) w' ∙ within-taken word s c.m l));
      }

  module _ (frames : List ℕ) (within : AllWithin (c.k + 1) frames) where
    -- a frame of the input, in the word
    turned : (t word : ℕ) {next : ℕ} → t < length frames → next ≡ bit_xor (word / 2) (get_or puts (get_or frames t 0) 0)
        → TakenIn (O.sums ∷ []) c.k c.p c.m (get_or frames t 0) (in_one c.m word) (in_one c.m next) (next % 2 ^ (c.m + 1))
    turned t word {next} l e =
        let f = get_or frames t 0 in
        subst (λ p. TakenIn (O.sums ∷ []) c.k p c.m f (in_one c.m word) (in_one c.m next) (next % 2 ^ (c.m + 1))) (sym O.one)
        (taken-into O.sums c.k c.m f word O.guaranteed.m_most (e ∙ ap (bit_xor (word / 2)) (O.puts_are f (within t l))))

    pub word-waits : (t word : ℕ) {next : ℕ} → t < c.m → t < length frames → next ≡ bit_xor (word / 2) (get_or puts (get_or frames t 0) 0)
        → Before c frames t (in_one c.m word) → Before c frames (t + 1) (in_one c.m next)
    word-waits t word h l e B = wait-more c O.guaranteed (O.sums ∷ []) sums_are frames t h refl (turned t word l e) B

    pub word-turn : (u v word : ℕ) (output₀ : List ℕ) {taken next errors : ℕ} {output : List ℕ}
        → u + c.m < length frames → length frames ≤ length output₀ + c.m
        → taken ≡ bit_xor (word / 2) (get_or puts (get_or frames (u + c.m) 0) 0)
        → errors ≡ decide_by_all c.counts c.checks (in_one c.m taken).syndromes c.k 1
        → FedBack taken puts c.m errors next
        → v ≡ corrected_by (get_or frames u 0) c.k errors
        → Handing c frames output₀ u (in_one c.m word) output
        → Handing c frames output₀ (u + 1) (in_one c.m next) (set output u v)
    word-turn u v word output₀ {taken} {next} {errors} ht ho e d w q handing =
        hand-turn c O.guaranteed (O.sums ∷ []) sums_are frames u v output₀ ht ho (turned (u + c.m) word ht e)
        (subst (λ p. Corrected (O.sums ∷ []) c.counts c.checks c.k p (in_one c.m taken) (in_one c.m next) errors) (sym O.one) (fed-into d w)) q handing

    -- while no syndrome is 1 nothing is decided to be wrong
    pub word-through : (u v word : ℕ) (output₀ : List ℕ) {next : ℕ} {output : List ℕ}
        → u + c.m < length frames → length frames ≤ length output₀ + c.m
        → next ≡ bit_xor (word / 2) (get_or puts (get_or frames (u + c.m) 0) 0)
        → next % 2 ^ (c.m + 1) ≡ 0
        → v ≡ corrected_by (get_or frames u 0) c.k 0
        → Handing c frames output₀ u (in_one c.m word) output
        → Handing c frames output₀ (u + 1) (in_one c.m next) (set output u v)
    word-through u v word output₀ {next} ht ho e z q handing =
        word-turn u v word output₀ ht ho e
        (sym (decide-all-none c.counts c.checks (in_one c.m next).syndromes c.k 1
        (λ j l. let n : j ≡ 0 = omega arith in ap (λ i. get_or (in_one c.m next).syndromes i 0) n ∙ z)))
        (inl (refl, refl)) q handing

-- registers of zeros in one word
pub of-zeros : (c : Card) (frames : List ℕ) → Before c frames 0 (in_one c.m 0)
of-zeros c frames =
    subst (Before c frames 0) (sym (ap₂ (λ x y. registers (x ∷ replicate 7 0) (y ∷ replicate 7 0)) (zero-div (2 ^ (c.m + 1))) (zero-mod (2 ^ (c.m + 1)))))
    (start c frames)

-- ---- the vote

-- nothing is decided to be wrong while too few syndromes are 1
pub few-held : (c : Card) → Guarantees c → c.p ≡ 1 → (held least : ℕ) → held < 2 ^ 32 → AtLeast c.counts c.k least → 2 * ones held ≤ least
    → decide_by_all c.counts c.checks (held ∷ replicate 7 0) c.k 1 ≡ 0
unfolding sum_below count
few-held c G one held least hh counted few =
    subst (λ p. decide_by_all c.counts c.checks (held ∷ replicate 7 0) c.k p ≡ 0) one
    (decide-few c G (held ∷ replicate 7 0) (λ i l. let z : c.p ≡ 1 = one in rw z (omega (arith, few, counted i l, ones-sum 32 held hh))))
