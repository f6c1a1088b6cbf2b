-- One frame: the registers hold the received digits of times u to t and the digits decided before u, and the frame that they decide is that of the second
-- rule. The whole list of received frames is fixed; `digits` are the frames decided so far, those of the times before u.
use Prim.Native.Nat.{ℕ, suc, ◌+◌, ◌-◌, ◌*◌, ◌/◌, ◌%◌, ◌^◌, ◌≤◌, ◌<◌, min}
use mathlib.Core.Path.{◌≡◌, sym, ap, ap₂, ◌∙◌}
use mathlib.Core.Bool.{cond}
use mathlib.Core.Logic.{⊎_elim}
use mathlib.Core.List.{List}
use native.Mathlib.Nat.{add-zero, one-mul, mul_comm, add-mod-mod}
use native.Mathlib.Omega.{arith}
use lib.ListN.{length, get_or, replicate}
use lib.Bits.{bit_xor}
use lib.Count.{ones}
use lib.Dec.{ltb}
use borrow.Author.Tests.{lt-ltb, le-ltb}
use Rattle.bits.specs.Sums.{sum_below, back}
use Rattle.bits.specs.Digits.{bit, dot, from_digits, shift_up}
use Rattle.bits.proofs.Back.{back_in, back-out, back-suc}
use Rattle.bits.proofs.Cases.{le-or-lt, last-or-below}
use Rattle.bits.proofs.Digits.{bit-lt, bit-suc, bit-shift, bit_high, bit-xor, bit-xors, bit-masks, bit-times, place_same, place_other, from_digits-same}
use Rattle.bits.proofs.Held.{held, held_in}
use Rattle.bits.proofs.Lists.{up_to-length, up_to-at, part_at, part_length}
use Rattle.bits.proofs.Sums.{sum_same, sum-cong, sum-mod, sum-cut, sum-one_more, mul_mod_left}
use Rattle.bits.proofs.Words.{bit_up, bit_up-low, shift-digit}
use Rattle.code.specs.Code.{generator, digit}
use Rattle.code.specs.Checks.{count, check_mask, besides}
use Rattle.code.specs.Guarantees.{Guarantees}
use Rattle.code.specs.Limits.{check_start}
use Rattle.code.specs.Registers.{generator_mask}
use Rattle.code.specs.declared.Card.{Card}
use Rattle.code.proofs.Besides.{besides-own, besides-other}
use Rattle.code.proofs.ParityLaws.{parity_sum}
use Rattle.code.proofs.Registers.{in_table, generator-beyond}
use Rattle.code.proofs.StreamRegisters.{DigitsAt}
use Rattle.majority.specs.SecondCircuit.{entering, vote, votes_for_one, decide_digit, decide_digits, decided_digits}
use Rattle.majority.specs.Rule.{voting, voters}
use Rattle.majority.proofs.SecondCircuit.{digits-at}
use Rattle.vote.specs.Voting.{check_by, stream_ones_by}
use Rattle.vote.proofs.Voting.{whole, voting-count, ones-count}
use Rattle.digit_decoder.specs.Held.{share_by, sum_by, sums_by, others_by, own_of, entering_by, majority_digit, decide_digit_by, decide_frame_by, with_decided}

-- ---- what the registers hold

-- digit a of a register that holds the digits x of times before u: that of time u - (32 - a)
unfoldable pub decided_at : (ℕ → ℕ) → ℕ → ℕ → ℕ
decided_at x u a = cond (ltb a 32) (back x u (32 - a)) 0

-- the digits decided before u
abbrev pub DecidedAt : Card → List ℕ → ℕ → List ℕ → Type 0
DecidedAt c digits u d = (i a : ℕ) → i < c.k → bit (get_or d i 0) a ≡ decided_at (digit digits i) u a

module _ (x : ℕ → ℕ) (u a : ℕ) where
  decided-in : a < 32 → decided_at x u a ≡ back x u (32 - a)
  unfolding decided_at
  decided-in l = rw (lt-ltb a 32 l)

  decided-out : 32 ≤ a → decided_at x u a ≡ 0
  unfolding decided_at
  decided-out l = rw (le-ltb a 32 l)

-- before the first frame there is none
pub decided-start : (x : ℕ → ℕ) (u a : ℕ) → u ≡ 0 → decided_at x u a ≡ 0
decided-start x u a z =
    ⊎_elim (λ (l : 32 ≤ a). decided-out x u a l) (λ (l : a < 32). decided-in x u a l ∙ back-out x u (32 - a) (omega arith)) (le-or-lt 32 a)

-- the digits of stream s as a vote sees them: decided before u, received from u on
unfoldable seen : List ℕ → List ℕ → ℕ → ℕ → ℕ → ℕ
seen frames digits u s v = cond (ltb v u) (digit digits s v) (digit frames s v)

module _ (frames digits : List ℕ) (u s : ℕ) where
  seen-before : (v : ℕ) → v < u → seen frames digits u s v ≡ digit digits s v
  unfolding seen
  seen-before v l = rw (lt-ltb v u l)

  seen-from : (b : ℕ) → seen frames digits u s (u + b) ≡ digit frames s (u + b)
  unfolding seen
  seen-from b = rw (le-ltb (u + b) u (omega arith))

-- ---- the digits of one stream, moved by a term of its generator
module _ (frames digits : List ℕ) (u t s r d : ℕ) (R : (a : ℕ) → bit r a ≡ held (digit frames s) u (suc t) a) (D : (a : ℕ) → bit d a ≡ decided_at (digit digits s) u a) where
  moved_up : (l a : ℕ) → l ≤ a → u + a ≤ t → a < 32 → bit (bit_xor (shift_up r l) (d / 2 ^ (32 - l))) a ≡ back (seen frames digits u s) (u + a) l
  moved_up l a h w la =
      let e : u + a - l ≡ u + (a - l) = omega arith in
      bit-xor (shift_up r l) (d / 2 ^ (32 - l)) a
      ∙ first (bit-shift d (32 - l) a ∙ D (32 - l + a) ∙ decided-out (digit digits s) u (32 - l + a) (omega arith)) (bit-lt (shift_up r l) a)
      ∙ bit_up r l a h la
      ∙ R (a - l)
      ∙ held_in (digit frames s) u (suc t) (a - l) (omega arith)
      ∙ sym (seen-from frames digits u s (a - l))
      ∙ ap (seen frames digits u s) (sym e)
      ∙ sym (back_in (seen frames digits u s) (u + a) l (omega arith))
    where
      first : {x y : ℕ} → y ≡ 0 → x < 2 → (x + y) % 2 ≡ x
      first e l = omega arith

  moved-past : (l a : ℕ) → a < l → l < 32 → bit (bit_xor (shift_up r l) (d / 2 ^ (32 - l))) a ≡ back (seen frames digits u s) (u + a) l
  moved-past l a h w =
      let p : 32 - (32 - l + a) ≡ l - a = omega arith in
      bit-xor (shift_up r l) (d / 2 ^ (32 - l)) a
      ∙ second (bit_up-low r l a h w) (bit-lt (d / 2 ^ (32 - l)) a)
      ∙ bit-shift d (32 - l) a
      ∙ D (32 - l + a)
      ∙ decided-in (digit digits s) u (32 - l + a) (omega arith)
      ∙ ap (back (digit digits s) u) p
      ∙ ⊎_elim
      (λ (q : l ≤ u + a).
      let e : u - (l - a) ≡ u + a - l = omega arith in
      back_in (digit digits s) u (l - a) (omega arith) ∙ ap (digit digits s) e ∙ sym (seen-before frames digits u s (u + a - l) (omega arith))
      ∙ sym (back_in (seen frames digits u s) (u + a) l q))
      (λ (q : u + a < l). back-out (digit digits s) u (l - a) (omega arith) ∙ sym (back-out (seen frames digits u s) (u + a) l q))
      (le-or-lt l (u + a))
    where
      second : {x y : ℕ} → x ≡ 0 → y < 2 → (x + y) % 2 ≡ y
      second e l = omega arith

  -- what the stream adds to the sum of time u + a
  share-bit : (g a : ℕ) → u + a ≤ t → a < 32 → bit (share_by g r d) a ≡ sum_below 32 (λ l. bit g l * back (seen frames digits u s) (u + a) l) % 2
  unfolding share_by
  share-bit g a w la =
      bit-masks 32 (λ l. bit_xor (shift_up r l) (d / 2 ^ (32 - l))) (bit g) (bit-lt g) a
      ∙ ap (λ (x : ℕ). x % 2)
      (sum_same 32 _ _
      (λ l ll.
      ap (λ (x : ℕ). x * bit g l) (⊎_elim (λ (h : l ≤ a). moved_up l a h w la) (λ (h : a < l). moved-past l a h ll) (le-or-lt l a))
      ∙ mul_comm (back (seen frames digits u s) (u + a) l) (bit g l)))

-- ---- the frame that is decided

-- by the number of votes and of those for 1
abbrev by_votes : ℕ → ℕ → ℕ → ℕ
by_votes n one own = cond (ltb n (2 * one)) 1 (cond (ltb (2 * one) n) 0 own)

voting-small : (c : Card) (erased : List ℕ) (u i q : ℕ) → voting c erased u i q < 2
unfolding voting
voting-small c erased u i q = omega arith

module _ (c : Card) (G : Guarantees c) (frames digits : List ℕ) (t u : ℕ) (hu : u + c.m ≡ t) (r d : List ℕ)
    (R : DigitsAt (c.k + c.p) frames u (suc t) r) (D : DecidedAt c digits u d) where
  -- the sum of parity stream j for time u + a: its digit, and the information digits that enter its parity
  sum-bit : (j a : ℕ) → j < c.p → a ≤ c.m
      → bit (sum_by c.generators r d c.k j) a ≡ (digit frames (c.k + j) (u + a) + parity_sum c (seen frames digits u) j (u + a)) % 2
  unfolding sum_by parity_sum generator
  sum-bit j a lj la =
      bit-xor (get_or r (c.k + j) 0) _ a
      ∙ ap₂ (λ (x y : ℕ). (x + y) % 2) (R (c.k + j) a (omega arith) ∙ held_in (digit frames (c.k + j)) u (suc t) a (omega arith))
      (bit-xors c.k _ a ∙ sum-mod c.k _ _ (λ s ls. shared s ls))
      ∙ add-mod-mod (digit frames (c.k + j) (u + a)) _ 2
    where
      shared : (s : ℕ) → s < c.k → bit (share_by (generator_mask c.generators s j) (get_or r s 0) (get_or d s 0)) a % 2
          ≡ sum_below (suc c.m) (λ l. bit (get_or c.generators (s * 8 + j) 0) l * back (seen frames digits u s) (u + a) l) % 2
      shared s ls =
          let g = get_or c.generators (s * 8 + j) 0 in
          ap (λ (x : ℕ). bit (share_by x (get_or r s 0) (get_or d s 0)) a % 2) (in_table c.generators s j (omega (arith, G.k_most)) (omega (arith, G.n_most)))
          ∙ ap (λ (x : ℕ). x % 2)
          (share-bit frames digits u t s (get_or r s 0) (get_or d s 0) (λ b. R s b (omega arith)) (λ b. D s b ls) g a (omega arith) (omega (arith, G.m_most)))
          ∙ twice _
          ∙ ap (λ (x : ℕ). x % 2)
          (sum-cut 32 (suc c.m) (λ l. bit g l * back (seen frames digits u s) (u + a) l) (omega (arith, G.m_most))
          (λ l w. ap (λ (x : ℕ). x * back (seen frames digits u s) (u + a) l) (generator-beyond c G s j l (omega arith)) ∙ omega arith))
        where
          twice : (x : ℕ) → x % 2 % 2 ≡ x % 2
          twice x = omega arith

  module _ (i : ℕ) (li : i < c.k) where
    -- the digit itself, as it was received
    own_is : own_of r i ≡ digit frames i u
    own_is = R i 0 (omega arith) ∙ held_in (digit frames i) u (suc t) 0 (omega arith) ∙ ap (digit frames i) (add-zero u)

    -- what a vote sees, but for the digit itself, enters it
    enters : (s v : ℕ) → (v ≡ u → s ≡ i → ⊥) → seen frames digits u s v ≡ entering frames digits u i s v
    unfolding seen entering
    enters s v ne =
        ⊎_elim
        (λ (l : u ≤ v).
        let b : besides i (v - u) s ≡ 1 = besides-other i (v - u) s (λ z e. ne (omega arith) e) in
        rw (le-ltb v u l, b) (sym (one-mul (digit frames s v))))
        (λ (l : v < u). rw (lt-ltb v u l)) (le-or-lt u v)

    left_out : entering frames digits u i i u ≡ 0
    unfolding entering
    left_out = let z : u - u ≡ 0 = omega arith in rw (le-ltb u u (omega arith), z, besides-own i) (omega arith)

    -- the digit itself enters the parity of time u + a by its generator's term a
    own_out : (j a : ℕ) → a ≤ c.m → parity_sum c (seen frames digits u) j (u + a) ≡ parity_sum c (entering frames digits u i) j (u + a) + generator c i j a * digit frames i u
    unfolding parity_sum
    own_out j a la =
        sum-one_more c.k i (generator c i j a * digit frames i u) _ _ li (λ s ne. sum-cong (suc c.m) (λ l. other s l (λ e w. ne w)))
        (sum-one_more (suc c.m) a (generator c i j a * digit frames i u) _ _ (omega arith) (λ l ne. other i l (λ e w. ne e)) itself)
      where
        e : u + a - a ≡ u
        e = omega arith

        other : (s l : ℕ) → (l ≡ a → s ≡ i → ⊥) → generator c s j l * back (seen frames digits u s) (u + a) l ≡ generator c s j l * back (entering frames digits u i s) (u + a) l
        other s l ne =
            ap (λ (x : ℕ). generator c s j l * x)
            (⊎_elim
            (λ (w : l ≤ u + a).
            back_in (seen frames digits u s) (u + a) l w ∙ enters s (u + a - l) (λ q. ne (omega arith)) ∙ sym (back_in (entering frames digits u i s) (u + a) l w))
            (λ (w : u + a < l). back-out (seen frames digits u s) (u + a) l w ∙ sym (back-out (entering frames digits u i s) (u + a) l w))
            (le-or-lt l (u + a)))

        itself : generator c i j a * back (seen frames digits u i) (u + a) a ≡ generator c i j a * back (entering frames digits u i i) (u + a) a + generator c i j a * digit frames i u
        itself =
            let x : back (seen frames digits u i) (u + a) a ≡ digit frames i u =
            back_in (seen frames digits u i) (u + a) a (omega arith) ∙ ap (seen frames digits u i) (e ∙ sym (add-zero u)) ∙ seen-from frames digits u i 0 ∙ ap (digit frames i) (add-zero u) in
            let y : back (entering frames digits u i i) (u + a) a ≡ 0 = back_in (entering frames digits u i i) (u + a) a (omega arith) ∙ ap (entering frames digits u i i) e ∙ left_out in
            rw (x, y) (omega arith)

    -- the sums that its votes are taken from
    abbrev words : List ℕ
    words = entering_by c.generators r (sums_by c.generators r d c.k c.p) c.p i

    -- are those of what enters the vote
    other-bit : (j a : ℕ) → j < c.p → a ≤ c.m
        → bit (get_or words j 0) a % 2
        ≡ (entering frames digits u i (c.k + j) (u + a) + parity_sum c (entering frames digits u i) j (u + a)) % 2
    unfolding entering_by others_by sums_by
    other-bit j a lj la =
        ap (λ (x : ℕ). bit x a % 2)
        (part_at _ (replicate 8 0) c.p j lj
        ∙ ap (λ (x : ℕ). bit_xor x (generator_mask c.generators i j * own_of r i)) (part_at _ (replicate 8 0) c.p j lj))
        ∙ ap (λ (x : ℕ). x % 2)
        (bit-xor (sum_by c.generators r d c.k j) _ a
        ∙ ap₂ (λ (x y : ℕ). (x + y) % 2) (sum-bit j a lj la)
        (bit-times (generator_mask c.generators i j) (own_of r i) a (bit-lt (get_or r i 0) 0) ∙ ap₂ ◌*◌ term own_is))
        ∙ remainders (digit frames (c.k + j) (u + a)) _ _ _ (own_out j a la)
        ∙ ap (λ (x : ℕ). (x + parity_sum c (entering frames digits u i) j (u + a)) % 2) parity-enters
      where
        term : bit (generator_mask c.generators i j) a ≡ generator c i j a
        term = unfold generator in ap (λ (x : ℕ). bit x a) (in_table c.generators i j (omega (arith, G.k_most)) (omega (arith, G.n_most)))

        parity-enters : digit frames (c.k + j) (u + a) ≡ entering frames digits u i (c.k + j) (u + a)
        parity-enters = sym (seen-from frames digits u (c.k + j) a) ∙ enters (c.k + j) (u + a) (λ z e. omega arith)

        remainders : (x y z w : ℕ) → y ≡ z + w → ((x + y) % 2 + w) % 2 % 2 ≡ (x + z) % 2
        remainders x y z w e = omega arith

    -- a vote
    vote-is : (q : ℕ) → check_by c.checks (check_start i q) words c.p ≡ vote c frames digits u i q
    unfolding check_by dot vote check_mask parity_sum
    vote-is q =
        sum-mod c.p _ _
        (λ j lj.
        let mask = get_or c.checks (check_start i q + j) 0 in
        ap (λ (x : ℕ). x % 2)
        (sum-cut 32 (suc c.m) (λ a. bit mask a * bit (get_or words j 0) a) (omega (arith, G.m_most))
        (λ a w. ap (λ (x : ℕ). x * bit (get_or words j 0) a) (bit_high mask (c.m + 1) a (G.checks_within (check_start i q + j)) (omega arith)) ∙ omega arith))
        ∙ sum-mod (suc c.m) _ _ (λ a la. mul_mod_left (bit mask a) _ _ (other-bit j a lj (omega arith))))

    words_long : 8 ≤ length words
    unfolding entering_by others_by
    words_long = let e : length words ≡ 8 = part_length _ (replicate 8 0) c.p (omega (arith, G.n_most)) in omega arith

    -- the digit as it is decided, where the checks that vote are those of the rule
    module _ (erased : List ℕ) where
      abbrev votes? : ℕ
      votes? = from_digits (count c i) (voting c erased u i)

      ones-are : ones (stream_ones_by c.checks i votes? words c.p) ≡ votes_for_one c frames erased digits u i
      unfolding stream_ones_by votes_for_one
      ones-are =
          let p-is : min c.p 8 ≡ c.p = omega (arith, G.n_most) in
          rw (lt-ltb i 4 (omega (arith, G.k_most)), p-is)
          (ap ones (whole c.checks words _ (omega (arith, G.checks_long)) words_long)
          ∙ ones-count (count c i) (G.j_most i) (voting c erased u i) (λ q l. voting-small c erased u i q) c.checks i words c.p
          ∙ sum-cong (count c i) (λ q. ap (λ x. voting c erased u i q * x) (vote-is q)))

      digit-is : (voters? : List ℕ) → get_or voters? i 0 ≡ votes?
          → decide_digit_by c.generators c.checks voters? r (sums_by c.generators r d c.k c.p) c.p i ≡ decide_digit c frames erased digits u i
      unfolding decide_digit_by decide_digit majority_digit voters
      digit-is voters? are =
          ap (λ v. majority_digit v (stream_ones_by c.checks i v words c.p) (own_of r i)) are
          ∙ ap₂ (λ v o. by_votes v o (own_of r i))
          (voting-count (count c i) (G.j_most i) (voting c erased u i) (λ q l. voting-small c erased u i q)) ones-are
          ∙ ap (by_votes (voters c erased u i) (votes_for_one c frames erased digits u i)) own_is

  -- the frame
  pub decide-is : (erased voters? : List ℕ) → ((i : ℕ) → i < c.k → get_or voters? i 0 ≡ from_digits (count c i) (voting c erased u i))
      → decide_frame_by c.generators c.checks voters? r d c.k c.p ≡ decide_digits c frames erased digits u
  unfolding decide_frame_by decide_digits
  decide-is erased voters? are = from_digits-same c.k _ _ (λ i l. digit-is i l erased voters? (are i l))

-- ---- the next frame

-- a decided register with the digit of time u more
module _ (x y : ℕ → ℕ) (u d v : ℕ) (same : (w : ℕ) → w < u → x w ≡ y w) (new : v ≡ y u) (hv : v < 2) (D : (a : ℕ) → bit d a ≡ decided_at x u a) where
  beyond : (a : ℕ) → 32 ≤ a → (decided_at x u (suc a) + bit (v * 2 ^ 31) a) % 2 ≡ decided_at y (suc u) a
  beyond a l =
      let e = decided-out x u (suc a) (omega arith) in
      let q = place_other v 31 a hv (λ e. absurd (omega arith)) in
      let z = decided-out y (suc u) a l in
      omega arith

  newest : (a : ℕ) → a ≡ 31 → (decided_at x u (suc a) + bit (v * 2 ^ 31) a) % 2 ≡ decided_at y (suc u) a
  newest a e =
      let q = decided-out x u (suc a) (omega arith) in
      let w : bit (v * 2 ^ 31) a ≡ v = ap (bit (v * 2 ^ 31)) e ∙ place_same v 31 hv in
      let n : 32 - a ≡ 1 = omega arith in
      let z : suc u - 1 ≡ u = omega arith in
      let g : decided_at y (suc u) a ≡ v = decided-in y (suc u) a (omega arith) ∙ ap (back y (suc u)) n ∙ back_in y (suc u) 1 (omega arith) ∙ ap y z ∙ sym new in
      omega arith

  older : (a : ℕ) → a < 31 → (decided_at x u (suc a) + bit (v * 2 ^ 31) a) % 2 ≡ decided_at y (suc u) a
  older a l =
      let n : 32 - a ≡ suc (32 - suc a) = omega arith in
      let q = place_other v 31 a hv (λ e. absurd (omega arith)) in
      let w : decided_at x u (suc a) ≡ decided_at y (suc u) a =
      decided-in x u (suc a) (omega arith) ∙ kept (32 - suc a) (omega arith) ∙ sym (back-suc y u (32 - suc a)) ∙ ap (back y (suc u)) (sym n) ∙ sym (decided-in y (suc u) a (omega arith)) in
      let b : decided_at x u (suc a) < 2 = rw (sym (D (suc a))) (bit-lt d (suc a)) in
      omega arith
    where
      kept : (b : ℕ) → 1 ≤ b → back x u b ≡ back y u b
      kept b h =
          ⊎_elim (λ (w : b ≤ u). back_in x u b w ∙ same (u - b) (omega arith) ∙ sym (back_in y u b w)) (λ (w : u < b). back-out x u b w ∙ sym (back-out y u b w)) (le-or-lt b u)

  shifted : (a : ℕ) → bit (bit_xor (d / 2) (shift_up v 31)) a ≡ decided_at y (suc u) a
  shifted a =
      ap (λ (n : ℕ). bit (bit_xor (d / 2) n) a) (shift-digit v 31 hv (omega arith))
      ∙ bit-xor (d / 2) (v * 2 ^ 31) a
      ∙ ap (λ (n : ℕ). (n + bit (v * 2 ^ 31) a) % 2) (sym (bit-suc d a) ∙ D (suc a))
      ∙ ⊎_elim (beyond a) (λ (l : a < 32). ⊎_elim (newest a) (older a) (last-or-below l)) (le-or-lt 32 a)

module _ (c : Card) (G : Guarantees c) (frames erased : List ℕ) where
  -- the frame of time u as it is decided, at the registers' upper end
  pub decided-next : (u f : ℕ) (d : List ℕ) → c.k ≤ length d → f ≡ decide_digits c frames erased (decided_digits c frames erased u) u → DecidedAt c (decided_digits c frames erased u) u d
      → DecidedAt c (decided_digits c frames erased (suc u)) (suc u) (with_decided d f)
  unfolding with_decided digit
  decided-next u f d enough hf D i a li =
      ap (λ (x : ℕ). bit x a) (up_to-at (length d) _ i (omega arith))
      ∙ shifted (digit (decided_digits c frames erased u) i) (digit (decided_digits c frames erased (suc u)) i) u (get_or d i 0) (bit f i)
      (λ w l. ap (λ (x : ℕ). bit x i) (digits-at c frames erased u w l ∙ sym (digits-at c frames erased (suc u) w (omega arith))))
      (ap (λ (x : ℕ). bit x i) (hf ∙ sym (digits-at c frames erased (suc u) u (omega arith)))) (bit-lt f i) (λ b. D i b li) a

pub decided-length : (d : List ℕ) (f : ℕ) → length (with_decided d f) ≡ length d
unfolding with_decided
decided-length d f = up_to-length (length d) _
