-- Votes: the ones of words added up by exclusive or, checks as the digits of a word, and registers that decide as the rule does.
use Prim.Native.Nat.{ℕ, suc, ◌+◌, ◌-◌, ◌*◌, ◌/◌, ◌%◌, ◌^◌, ◌≤◌, ◌<◌, min, zero-le}
use mathlib.Core.Bool.{Bool, true, false, cond}
use mathlib.Core.Path.{◌≡◌, sym, ap, ap₂, ◌∙◌}
use mathlib.Core.Logic.{⊎_elim}
use mathlib.Core.List.{List, []}
use native.Mathlib.Nat.{mod-lt, mod-eq_of_lt, div-eq_of_lt, zero-lt-suc, lt_of_lt_of_le, lt_of_le_of_lt, mul-le-mul, mul_comm, mul-zero, zero-mul}
use native.Mathlib.Omega.{arith}
use lib.ListN.{length, get_or}
use lib.Bits.{bit_and, and_le_l}
use lib.Dec.{ltb}
use lib.Count.{ones, count_leading_zeros, leading_length}
use lib.Pow.{pow_pos, pow_mono}
use borrow.Author.Tests.{le-ltb}
use Rattle.bits.specs.Sums.{sum_below}
use Rattle.bits.specs.Digits.{bit, dot, from_digits, shift_up}
use Rattle.bits.proofs.Sums.{sum-cong, sum_more, sum-none, sum_same, sum-cut, sum-cut-within}
use Rattle.bits.proofs.Cases.{cond-le, le-or-lt}
use Rattle.bits.proofs.Digits.{bit_le, bit-and, bit-mod, bit_high, bit-of-zero, bit-from_digits, halved-whole, ones-sum, ones-made, from_digits-lt, from_digits-same, from_digits-first, from_digits-bits}
use Rattle.bits.proofs.Words.{placed-fits, placed-more}
use Rattle.code.specs.Checks.{count, check_mask}
use Rattle.code.specs.Limits.{most_checks, check_words, check_start}
use Rattle.code.specs.Guarantees.{Guarantees}
use Rattle.code.specs.declared.Card.{Card}
use Rattle.majority.specs.Rule as Rule
use Rattle.majority.specs.Rule.{cleared, check_at, voting, voters, votes, decide}
use Rattle.majority.specs.Plain.{decide_frame}
use Rattle.majority.proofs.Plain.{none-erased, decide-plain}
use Rattle.vote.specs.Voting.{check_by, ones_by, if_whole, majority_by, decide_by, votes_by, decide_by_all}

-- the ones of what two words have in common
pub ones-of-common : (x y : ℕ) {z : ℕ} → z ≡ bit_and x y → z < 2 ^ 32 → ones z ≡ dot x y
unfolding dot
ones-of-common x y {z} e h = ones-sum 32 z h ∙ sum-cong 32 (λ a. ap (λ n. bit n a) e ∙ bit-and x y a)

pub check-lt : (checks : List ℕ) (at : ℕ) (words : List ℕ) (p : ℕ) → check_by checks at words p < 2
unfolding check_by
check-lt checks at words p = mod-lt _ (zero-lt-suc 1)

-- ---- digits that are picked by those of a word, one after the other

module _ (all : ℕ) (d : ℕ → ℕ) (small : (q : ℕ) → d q < 2) where
  pub picked-lt : (q : ℕ) → bit all q * d q < 2
  picked-lt q = let l : d q ≤ 1 = omega (arith, small q) in omega (arith, mul-le-mul (bit_le all q) l)

  -- one digit more
  module _ (q : ℕ) {word : ℕ} (so_far : word ≡ from_digits q (λ r. bit all r * d r)) where
    word_small : word < 2 ^ q
    word_small = rw so_far (from_digits-lt q _ (λ r l. picked-lt r))

    pub picked_fits : q < most_checks → word + shift_up 1 q < 2 ^ 32
    picked_fits l = placed-fits word 1 q word_small (omega arith) (omega arith)

    pub picked_more : q < most_checks → bit all q ≡ 1 → d q ≡ 1 → word + shift_up 1 q ≡ from_digits (q + 1) (λ r. bit all r * d r)
    picked_more l e f =
        placed-more word 1 q word_small (omega arith) (omega arith) (λ r. bit all r * d r) so_far (sym (ap₂ ◌*◌ e f))

    pub picked_none : bit all q * d q ≡ 0 → word ≡ from_digits (q + 1) (λ r. bit all r * d r)
    unfolding from_digits
    picked_none z = so_far ∙ omega (arith, sum_more q (λ r. bit all r * d r * 2 ^ r), ap (λ x. x * 2 ^ q) z)

  -- the end: none is left
  pub picked-end : (q : ℕ) {word : ℕ} → q ≤ most_checks → all % 2 ^ most_checks / 2 ^ q ≤ 0 → word ≡ from_digits q (λ r. bit all r * d r)
      → word ≡ from_digits most_checks (λ r. bit all r * d r)
  unfolding from_digits
  picked-end q h z e = e ∙ sym (sum-cut-within most_checks q _ h gone)
    where
      gone : (r : ℕ) → q ≤ r → r < most_checks → bit all r * d r * 2 ^ r ≡ 0
      gone r l below =
          let none : bit all r ≡ 0 = sym (bit-mod all most_checks r below) ∙ bit_high (all % 2 ^ most_checks) q r (halved-whole (all % 2 ^ most_checks) q z) l in
          ap (λ x. x * d r * 2 ^ r) none ∙ ap (λ x. x * 2 ^ r) (zero-mul (d r)) ∙ zero-mul (2 ^ r)

-- ---- the same, all digits worked out from the highest on, and picked at the end

-- the place after the highest digit
pub top-most : (all : ℕ) → 32 - count_leading_zeros 32 (all % 2 ^ most_checks) ≤ most_checks
top-most all =
    let low = all % 2 ^ most_checks in
    let t = leading_length 32 low (lt_of_lt_of_le (mod-lt all (pow_pos most_checks)) (pow_mono {i = most_checks} {j = 32} (omega arith))) in
    ⊎_elim
    (λ (l : t.0 ≤ most_checks). omega (arith, t.1))
    (λ (l : most_checks < t.0). absurd (omega (arith, t.3, mod-lt all (pow_pos most_checks), pow_mono {i = most_checks + 1} {j = t.0} (omega arith))))
    (le-or-lt t.0 most_checks)

pub top-enough : (all : ℕ) → all % 2 ^ most_checks < 2 ^ (32 - count_leading_zeros 32 (all % 2 ^ most_checks))
top-enough all =
    let low = all % 2 ^ most_checks in
    let t = leading_length 32 low (lt_of_lt_of_le (mod-lt all (pow_pos most_checks)) (pow_mono {i = most_checks} {j = 32} (omega arith))) in
    let e : t.0 ≡ 32 - count_leading_zeros 32 low = omega (arith, t.1) in
    rw e at t.2

-- the digits of places q to top - 1
abbrev pub digits_from : (ℕ → ℕ) → ℕ → ℕ → ℕ
digits_from d top q = from_digits (top - q) (λ r. d (q + r))

pub digits-from-none : (d : ℕ → ℕ) (top : ℕ) → 0 ≡ digits_from d top top
unfolding from_digits sum_below
digits-from-none d top = let z : 0 ≡ top - top = omega arith in ap (λ n. from_digits n (λ r. d (top + r))) z

module _ (d : ℕ → ℕ) (small : (q : ℕ) → d q < 2) where
  pub digits-from-lt : (top q : ℕ) → digits_from d top q < 2 ^ (top - q)
  digits-from-lt top q = from_digits-lt (top - q) _ (λ r l. small (q + r))

  -- one more, below them
  pub digits-from-more : (top q : ℕ) {word x : ℕ} → q < top → word ≡ digits_from d top (q + 1) → x ≡ d q → word * 2 + x ≡ digits_from d top q
  digits-from-more top q {word} {x} l e f =
      let n : top - q ≡ suc (top - (q + 1)) = omega arith in
      let z : q + 0 ≡ q = omega arith in
      ap₂ (λ w y. w * 2 + y) (e ∙ from_digits-same (top - (q + 1)) _ _ (λ r lr. let h : q + 1 + r ≡ q + suc r = omega arith in ap d h)) (f ∙ ap d (sym z))
      ∙ omega arith
      ∙ sym (ap (λ m. from_digits m (λ r. d (q + r))) n ∙ from_digits-first (top - (q + 1)) (λ r. d (q + r)))

  -- the end: all of them
  pub digits-from-end : (top : ℕ) → digits_from d top 0 ≡ from_digits top d
  digits-from-end top =
      let n : top - 0 ≡ top = omega arith in
      ap (λ m. from_digits m (λ r. d (0 + r))) n ∙ from_digits-same top _ _ (λ q l. let z : 0 + q ≡ q = omega arith in ap d z)

  -- those that stand in `all`, of which none is at `top` or beyond
  pub picked_of : (all top : ℕ) {word : ℕ} → top ≤ most_checks → all % 2 ^ most_checks < 2 ^ top → word ≡ from_digits top d
      → bit_and word all ≡ from_digits most_checks (λ q. bit all q * d q)
  picked_of all top {word} most h word-is =
      picked-end all d small top most (omega (arith, div-eq_of_lt h)) (sym (mod-eq_of_lt below) ∙ sym (from_digits-bits top (bit_and word all)) ∙ from_digits-same top _ _ each)
    where
      below : bit_and word all < 2 ^ top
      below = lt_of_le_of_lt (and_le_l word all) (rw word-is (from_digits-lt top d (λ q l. small q)))

      each : (q : ℕ) → q < top → bit (bit_and word all) q ≡ bit all q * d q
      each q l =
          bit-and word all q ∙ mul_comm (bit word q) (bit all q)
          ∙ ap (λ x. bit all q * x) (ap (λ w. bit w q) word-is ∙ bit-from_digits top d (λ r lr. small r) q l)

-- ---- tables and registers that are whole
pub whole : (checks words : List ℕ) (x : ℕ) → check_words ≤ length checks → 8 ≤ length words → if_whole checks words x ≡ x
unfolding if_whole
whole checks words x h l = rw (le-ltb (length checks) check_words h, le-ltb (length words) 8 l)

pub when-whole : (checks words : List ℕ) {b : Bool} → ((x : ℕ) → if_whole checks words x ≡ cond b x 0) → b ≡ true → (x : ℕ) → x ≡ if_whole checks words x
when-whole checks words is e x = sym (is x ∙ ap (λ b. cond b x 0) e)

pub not-whole : (checks words : List ℕ) {b : Bool} → ((x : ℕ) → if_whole checks words x ≡ cond b x 0) → b ≡ false → (x : ℕ) → 0 ≡ if_whole checks words x
not-whole checks words is e x = sym (is x ∙ ap (λ b. cond b x 0) e)

pub whole_le : (checks words : List ℕ) (x n : ℕ) → x ≤ n → if_whole checks words x ≤ n
unfolding if_whole
whole_le checks words x n h = cond-le (ltb (length checks) check_words) 0 _ n zero-le (cond-le (ltb (length words) 8) 0 x n zero-le h)

-- ---- what the checks of a stream say, counted, where the digits of a word say which vote
module _ (n : ℕ) (most : n ≤ most_checks) (votes? : ℕ → ℕ) (small : (q : ℕ) → q < n → votes? q < 2) where
  pub voting-count : ones (from_digits n votes?) ≡ sum_below n votes?
  voting-count = ones-made n votes? small

  pub ones-count : (checks : List ℕ) (i : ℕ) (words : List ℕ) (p : ℕ)
      → ones (ones_by checks i (from_digits n votes?) words p) ≡ sum_below n (λ q. votes? q * check_by checks (check_start i q) words p)
  unfolding ones_by
  ones-count checks i words p =
      ones-made most_checks _ (λ q l. picked-lt (from_digits n votes?) (λ q. check_by checks (check_start i q) words p) (λ q. check-lt checks (check_start i q) words p) q)
      ∙ sum-cut most_checks n _ most
      (λ q l. ap (λ x. x * check_by checks (check_start i q) words p) (bit_high _ n q (from_digits-lt n votes? small) l) ∙ zero-mul _)
      ∙ sum_same n _ _ (λ q l. ap (λ x. x * check_by checks (check_start i q) words p) (bit-from_digits n votes? small q l))

-- ---- the decided errors, one stream after the other
majority-lt : (n votes : ℕ) → majority_by n votes < 2
unfolding majority_by
majority-lt n votes = let l = cond-le (ltb n (2 * votes)) 1 0 1 (omega arith) (omega arith) in omega arith

module _ (voting counts checks syndromes : List ℕ) (p : ℕ) where
  -- the decided error of stream i
  abbrev pub error_of : ℕ → ℕ
  error_of i = majority_by (get_or counts i 0) (ones (ones_by checks i (get_or voting i 0) syndromes p))

  error-lt : (i : ℕ) → error_of i < 2
  error-lt i = majority-lt (get_or counts i 0) (ones (ones_by checks i (get_or voting i 0) syndromes p))

  pub errors_lt : (i : ℕ) → from_digits i error_of < 2 ^ i
  errors_lt i = from_digits-lt i error_of (λ a l. error-lt a)

-- four streams at most are decided
pub decide-lt : (voting counts checks syndromes : List ℕ) (k p : ℕ) → decide_by voting counts checks syndromes k p < 16
unfolding decide_by
decide-lt voting counts checks syndromes k p =
    let l = lt_of_lt_of_le (errors_lt voting counts checks syndromes (min p 8) (min k 4)) (pow_mono {i = min k 4} {j = 4} (omega arith)) in
    let h = whole_le checks syndromes (from_digits (min k 4) (error_of voting counts checks syndromes (min p 8))) 15 (omega arith) in
    omega arith

-- a word that has no 1 has none in common with a mask
dot-none : (x : ℕ) {y : ℕ} → y ≡ 0 → dot x y ≡ 0
unfolding dot
dot-none x e = ap (λ y. sum_below 32 (λ a. bit x a * bit y a)) e ∙ sum-none 32 _ (λ a l. ap (λ d. bit x a * d) (bit-of-zero a) ∙ omega arith)

-- registers that hold no 1
module _ (checks syndromes : List ℕ) (p : ℕ) (none : (j : ℕ) → j < p → get_or syndromes j 0 ≡ 0) where
  check-none : (at : ℕ) → check_by checks at syndromes (min p 8) ≡ 0
  unfolding check_by
  check-none at =
      ap (λ n. n % 2) (sum-none (min p 8) (λ j. dot (get_or checks (at + j) 0) (get_or syndromes j 0)) (λ j l. dot-none _ (none j (omega arith))))

  ones_none : (i voting : ℕ) → ones_by checks i voting syndromes (min p 8) ≡ 0
  unfolding ones_by from_digits
  ones_none i voting =
      sum-none most_checks _ (λ q l. ap (λ x. bit voting q * x * 2 ^ q) (check-none (check_start i q)) ∙ ap (λ x. x * 2 ^ q) (mul-zero (bit voting q)) ∙ zero-mul (2 ^ q))

  majority-none : (n i voting : ℕ) → majority_by n (ones (ones_by checks i voting syndromes (min p 8))) ≡ 0
  unfolding majority_by ones
  majority-none n i voting = ap (λ o. cond (ltb n (2 * ones o)) 1 0) (ones_none i voting) ∙ ap (λ b. cond b 1 0) (le-ltb n 0 zero-le)

  -- vote for nothing
  pub decide-none : (voting counts : List ℕ) (k : ℕ) → decide_by voting counts checks syndromes k p ≡ 0
  unfolding decide_by from_digits
  decide-none voting counts k =
      let z = sum-none (min k 4) (λ i. error_of voting counts checks syndromes (min p 8) i * 2 ^ i) (λ i l. ap (λ d. d * 2 ^ i) (majority-none _ i _) ∙ omega arith) in
      let h = whole_le checks syndromes (from_digits (min k 4) (error_of voting counts checks syndromes (min p 8))) 0 (omega (arith, z)) in
      omega arith

-- ---- all checks vote
module _ (counts checks syndromes : List ℕ) (k p : ℕ) where
  pub decide-all-lt : decide_by_all counts checks syndromes k p < 2 ^ min k 4
  unfolding decide_by_all
  decide-all-lt =
      from_digits-lt (min k 4) _
      (λ i l. majority-lt (min (get_or counts i 0) most_checks) (votes_by checks i (min (get_or counts i 0) most_checks) syndromes (min p 8)))

  -- registers that hold no 1 vote for nothing
  pub decide-all-none : ((j : ℕ) → j < p → get_or syndromes j 0 ≡ 0) → decide_by_all counts checks syndromes k p ≡ 0
  unfolding decide_by_all majority_by from_digits votes_by
  decide-all-none none =
      sum-none (min k 4) _
      (λ i l.
      let n = min (get_or counts i 0) most_checks in
      let z : 2 * sum_below n (λ q. check_by checks (check_start i q) syndromes (min p 8)) ≡ 0 =
      omega (arith, sum-none n _ (λ q l. check-none checks syndromes p none (check_start i q))) in
      ap (λ v. cond (ltb n v) 1 0 * 2 ^ i) z ∙ ap (λ b. cond b 1 0 * 2 ^ i) (le-ltb n 0 zero-le) ∙ omega arith)

  -- registers from the p-th on that hold no 1 may vote as well
  module _ (most : p ≤ 8) (none : (j : ℕ) → p ≤ j → get_or syndromes j 0 ≡ 0) where
    check-wider : (at : ℕ) → check_by checks at syndromes 8 ≡ check_by checks at syndromes (min p 8)
    unfolding check_by
    check-wider at =
        ap (λ n. n % 2) (sum-cut 8 (min p 8) (λ j. dot (get_or checks (at + j) 0) (get_or syndromes j 0)) (omega arith) (λ j l. dot-none _ (none j (omega arith))))

    pub decide-wider : decide_by_all counts checks syndromes k 8 ≡ decide_by_all counts checks syndromes k p
    unfolding decide_by_all votes_by
    decide-wider =
        from_digits-same (min k 4) _ _
        (λ i l.
        let n = min (get_or counts i 0) most_checks in
        ap (majority_by n) (sum-cong n (λ q. check-wider (check_start i q))))

-- ---- registers that hold the syndromes of times u to u + m decide as the rule does
module _ (c : Card) (G : Guarantees c) (frames errors : List ℕ) (u : ℕ) (syndromes : List ℕ)
    (held : (j a : ℕ) → j < c.p → a ≤ c.m → bit (get_or syndromes j 0) a ≡ cleared c frames errors (u + a) j)
    (beyond : (j a : ℕ) → j < c.p → c.m < a → bit (get_or syndromes j 0) a ≡ 0) where
  check-is : (i q : ℕ) → check_by c.checks (check_start i q) syndromes c.p ≡ check_at c frames errors u i q
  unfolding check_by check_at dot check_mask
  check-is i q = ap (λ x. x % 2) (sum_same c.p _ _ part)
    where
      part : (j : ℕ) → j < c.p → dot (get_or c.checks (check_start i q + j) 0) (get_or syndromes j 0)
          ≡ sum_below (suc c.m) (λ a. bit (get_or c.checks (check_start i q + j) 0) a * cleared c frames errors (u + a) j)
      part j hj =
          let g = get_or c.checks (check_start i q + j) 0 in
          sum-cut 32 (suc c.m) (λ a. bit g a * bit (get_or syndromes j 0) a) (omega (arith, G.m_most))
          (λ a l. ap (λ x. bit g a * x) (beyond j a hj (omega arith)) ∙ omega arith)
          ∙ sum_same (suc c.m) _ _ (λ a l. ap (λ x. bit g a * x) (held j a hj (omega arith)))

  -- the card's numbers are within the tables
  k-is : min c.k 4 ≡ c.k
  k-is = omega (arith, G.k_most)

  p-is : min c.p 8 ≡ c.p
  p-is = omega (arith, G.n_most)

  -- .. if the words have the checks that vote by the rule, and the counts how many they are
  pub decide-is : (erased words counts : List ℕ) → 8 ≤ length syndromes
      → ((i : ℕ) → i < c.k → get_or words i 0 ≡ from_digits (count c i) (voting c erased u i))
      → ((i : ℕ) → i < c.k → get_or counts i 0 ≡ ones (get_or words i 0))
      → decide_by words counts c.checks syndromes c.k c.p ≡ Rule.decide_frame c frames erased errors u
  unfolding decide_by Rule.decide_frame
  decide-is erased words counts long are number =
      whole c.checks syndromes _ (omega (arith, G.checks_long)) long
      ∙ ap₂ (λ k p. from_digits k (error_of words counts c.checks syndromes p)) k-is p-is
      ∙ from_digits-same c.k _ _
      (λ i l.
      ap (λ n. majority_by n (ones (ones_by c.checks i (get_or words i 0) syndromes c.p))) (number i l)
      ∙ ap (λ v. majority_by (ones v) (ones (ones_by c.checks i v syndromes c.p))) (are i l) ∙ majority-is i)
    where
      small : (i q : ℕ) → q < count c i → voting c erased u i q < 2
      small i q l = unfold voting in omega arith

      majority-is : (i : ℕ)
          → majority_by (ones (from_digits (count c i) (voting c erased u i))) (ones (ones_by c.checks i (from_digits (count c i) (voting c erased u i)) syndromes c.p))
          ≡ decide c frames erased errors u i
      majority-is i =
          unfold majority_by decide voters votes in
          ap₂ (λ v o. cond (ltb v (2 * o)) 1 0) (voting-count (count c i) (G.j_most i) (voting c erased u i) (small i))
          (ones-count (count c i) (G.j_most i) (voting c erased u i) (small i) c.checks i syndromes c.p
          ∙ sum-cong (count c i) (λ q. ap (λ x. voting c erased u i q * x) (check-is i q)))

  pub decide-all-is : decide_by_all c.counts c.checks syndromes c.k c.p ≡ decide_frame c frames errors u
  unfolding decide_by_all majority_by Rule.decide_frame count
  decide-all-is =
      ap₂ (λ k p. from_digits k (λ i. all_of p i (min (count c i) most_checks))) k-is p-is
      ∙ from_digits-same c.k _ _
      (λ i l.
      let n-is : min (count c i) most_checks ≡ count c i = omega (arith, G.j_most i) in
      ap (all_of c.p i) n-is
      ∙ ap (λ v. cond (ltb (count c i) (2 * v)) 1 0) (votes-are i)
      ∙ sym (decide-plain c [] u (none-erased c u) frames errors i))
    where
      all_of : ℕ → ℕ → ℕ → ℕ
      all_of p i n = cond (ltb n (2 * votes_by c.checks i n syndromes p)) 1 0

      votes-are : (i : ℕ) → votes_by c.checks i (count c i) syndromes c.p ≡ sum_below (count c i) (λ q. check_at c frames errors u i q)
      votes-are i = unfold votes_by in sum-cong (count c i) (λ q. check-is i q)
