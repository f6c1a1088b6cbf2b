-- Which checks vote, by registers of erased digits of every value; and registers that hold which digits of times u to u + m are erased: the checks that vote
-- by them are those that vote by the rule.
use Prim.Native.Nat.{ℕ, suc, ◌+◌, ◌-◌, ◌*◌, ◌^◌, ◌≤◌, ◌<◌, min}
use mathlib.Core.Path.{◌≡◌, sym, ap, ap₂, ◌∙◌}
use mathlib.Core.Logic.{⊎_elim}
use mathlib.Core.List.{List}
use native.Mathlib.Nat.{one-mul, mul-one, zero-mul}
use native.Mathlib.Omega.{arith}
use lib.ListN.{length, get_or, take, drop, replicate, length-take, get_or-eq_default}
use lib.Seq.{get_or-take, get_or-drop}
use lib.Count.{ones}
use lib.Pow.{pow_pos}
use borrow.Author.Tests.{eq-eqb, ne_eqb}
use Rattle.bits.specs.Sums.{sum_below}
use Rattle.bits.specs.Digits.{bit, from_digits}
use Rattle.bits.proofs.Cases.{le-or-lt, same_or_not}
use Rattle.bits.proofs.Sums.{sum_same, sum-cut, sum-cong, sum-const}
use Rattle.bits.proofs.Digits.{all_ones, ones-made, bit-from_digits, bit_high, from_digits-lt, from_digits-same}
use Rattle.bits.proofs.Lists.{up_to-at, part_at}
use Rattle.code.specs.Code.{digit}
use Rattle.code.specs.Checks.{count, check_mask, besides}
use Rattle.code.specs.Judging.{clashes}
use Rattle.code.specs.Limits.{most_checks, check_words, check_start}
use Rattle.code.specs.Guarantees.{Guarantees}
use Rattle.code.specs.declared.Card.{Card}
use Rattle.code.proofs.Touches.{touches-same}
use Rattle.orthogonal.specs.Pass.{holds, word_code, information_streams, parity_streams, first_masks}
use Rattle.orthogonal.proofs.Clashes.{Clear, clear-clashes, clashes-clear}
use Rattle.orthogonal.proofs.Within.{clashes-within}
use Rattle.majority.specs.Rule.{voting}
use Rattle.majority.proofs.Plain.{every-votes}
use Rattle.vote.specs.Voting.{check_by, all_by, ones_by, majority_by, decide_by, votes_by, decide_by_all}
use Rattle.vote.specs.Voters.{all_voting, voting_by, stream_voters_by, voters_by, voters_of, decide_voters}
use Rattle.vote.proofs.Voting.{check-lt, whole, ones-count, error_of}
use Rattle.code.proofs.ErasedDigits.{ErasedAt, none-erased, marks-held}

-- ---- one check, by what it touches
module _ (generators checks erased : List ℕ) (k p i q : ℕ) where
  pub voting-lt : voting_by generators checks erased k p i q < 2
  unfolding voting_by
  voting-lt = omega arith

  module _ {masks : List ℕ} (is : masks ≡ drop (check_start i q) checks) where
    -- no digit of stream s drops the vote
    abbrev pub ClearAt : ℕ → Type 0
    ClearAt s = Clear generators masks erased (information_streams k) (parity_streams k p) i s

    -- its clashes, by the masks that were given
    abbrev met : List ℕ → ℕ
    met m = clashes (word_code generators (information_streams k) (parity_streams k p)) i (first_masks (parity_streams k p) m) (holds erased)

    pub votes-then : ((s : ℕ) → s < 8 → ClearAt s) → 1 ≡ voting_by generators checks erased k p i q
    unfolding voting_by
    votes-then h =
        let none = sym (ap met is) ∙ clear-clashes generators masks erased (information_streams k) (parity_streams k p) i (λ s l. h s (omega arith)) in
        sym (ap (λ x. 1 - x) none)

    pub votes-not : (((s : ℕ) → s < 8 → ClearAt s) → ⊥) → 0 ≡ voting_by generators checks erased k p i q
    unfolding voting_by
    votes-not n =
        let some : met (drop (check_start i q) checks) ≡ 0 → ⊥ =
        λ z. n (λ s l. clashes-clear generators masks erased (information_streams k) (parity_streams k p) i (ap met is ∙ z) s) in
        ⊎_elim (λ l. absurd (some (omega arith))) (λ l. omega arith) (le-or-lt (met (drop (check_start i q) checks)) 0)

-- ---- all checks of a stream

-- as many ones
pub all_voting-at : (counts : List ℕ) (k i : ℕ) → i < min k 4 → get_or (all_voting counts k) i 0 ≡ from_digits (min (get_or counts i 0) most_checks) (λ q. 1)
unfolding all_voting
all_voting-at counts k i l =
    part_at (λ i. 2 ^ min (get_or counts i 0) most_checks - 1) (replicate 4 0) (min k 4) i l ∙ sym (all_ones (min (get_or counts i 0) most_checks))

ones-of-all : (n : ℕ) → ones (from_digits n (λ q. 1)) ≡ n
ones-of-all n = ones-made n (λ q. 1) (λ q l. omega arith) ∙ sum-const n 1 ∙ mul-one n

-- where all vote, the decision of stream i
pub all-error : (counts checks syndromes : List ℕ) (k p i : ℕ) → i < min k 4 →
    let n = min (get_or counts i 0) most_checks in
    majority_by n (ones (all_by checks i n syndromes p)) ≡ error_of (voters_of (all_voting counts k)).words (voters_of (all_voting counts k)).counts checks syndromes p i
unfolding all_by
all-error counts checks syndromes k p i l =
    let n = min (get_or counts i 0) most_checks in
    let small : (q : ℕ) → q < n → 1 < 2 = λ q h. omega arith in
    sym
    (ap₂ majority_by (up_to-at 4 _ i (omega arith) ∙ ap ones (all_voting-at counts k i l) ∙ ones-of-all n)
    (ap (λ v. ones (ones_by checks i v syndromes p)) (all_voting-at counts k i l)
    ∙ ones-count n (omega arith) (λ q. 1) small checks i syndromes p
    ∙ sum-cong n (λ q. one-mul (check_by checks (check_start i q) syndromes p))
    ∙ sym (ones-made n _ (λ q h. check-lt checks (check_start i q) syndromes p))))

-- a burst's vote is that of all checks
pub all-decide : (counts checks syndromes : List ℕ) (k p : ℕ) → check_words ≤ length checks → 8 ≤ length syndromes
    → decide_voters (all_voting counts k) checks syndromes k p ≡ decide_by_all counts checks syndromes k p
unfolding decide_by decide_by_all
all-decide counts checks syndromes k p long wide =
    whole checks syndromes _ long wide
    ∙ from_digits-same (min k 4) _ _
    (λ i l.
    let n = min (get_or counts i 0) most_checks in
    sym (all-error counts checks syndromes k (min p 8) i l) ∙ ap (majority_by n) (votes-of-all i n))
  where
    votes-of-all : (i n : ℕ) → ones (all_by checks i n syndromes (min p 8)) ≡ votes_by checks i n syndromes (min p 8)
    votes-of-all i n = unfold all_by votes_by in ones-made n _ (λ q h. check-lt checks (check_start i q) syndromes (min p 8))

-- ---- the checks that vote by the rule

-- the masks of check q of stream i, as they are looked up
abbrev mask : Card → ℕ → ℕ → ℕ → ℕ
mask c i q = first_masks c.p (drop (check_start i q) c.checks)

module _ (c : Card) (G : Guarantees c) (i q : ℕ) where
  mask_is : (j : ℕ) → j < c.p → mask c i q j ≡ check_mask c i q j
  unfolding check_mask
  mask_is j l =
      get_or-take c.p (drop (check_start i q) c.checks) j 0 l ∙ get_or-drop (check_start i q) c.checks j 0

  mask-within : (j : ℕ) → mask c i q j < 2 ^ (c.m + 1)
  unfolding check_mask
  mask-within j =
      ⊎_elim
      (λ l.
      let m = drop (check_start i q) c.checks in
      rw (get_or-eq_default (take c.p m) 0 {n = j} (omega (arith, length-take c.p m))) (pow_pos (c.m + 1)))
      (λ l. rw (mask_is j l) (G.checks_within (check_start i q + j)))
      (le-or-lt c.p j)

-- registers that hold what is erased from time u on
module _ (c : Card) (G : Guarantees c) (erased : List ℕ) (u : ℕ) (y : List ℕ) (any : ℕ) (E : ErasedAt (c.k + c.p) erased u (suc (u + c.m)) y any) where
  -- the masks and the registers tell of the clashes that the check's masks and the stream tell of
  clashes-are : (i q : ℕ) → clashes c i (mask c i q) (holds y) ≡ clashes c i (check_mask c i q) (λ b s. digit erased s (u + b))
  unfolding clashes holds
  clashes-are i q =
      sum_same (suc c.m) _ _ (λ b lb.
      sum_same (c.k + c.p) _ _ (λ s ls.
      ap₂ (λ t e. besides i b s * (t * e)) (touches-same c (mask c i q) (check_mask c i q) b s (mask_is c G i q) ls) (marks-held c erased u y any E s b ls (omega arith))))

  voting-is : (i q : ℕ) → voting_by c.generators c.checks y c.k c.p i q ≡ voting c erased u i q
  unfolding voting_by voting
  voting-is i q =
      let k-is : information_streams c.k ≡ c.k = omega (arith, G.k_most) in
      let p-is : parity_streams c.k c.p ≡ c.p = omega (arith, G.n_most) in
      ap (λ x. 1 - x)
      (ap₂ (λ k p. clashes (word_code c.generators k p) i (first_masks p (drop (check_start i q) c.checks)) (holds y)) k-is p-is
      ∙ clashes-within c G.m_most (mask c i q) (mask-within c G i q) i (holds y) ∙ clashes-are i q)

  -- all checks of stream i
  all-is : (i : ℕ) → i < c.k → get_or (all_voting c.counts c.k) i 0 ≡ from_digits (count c i) (λ q. 1)
  unfolding count
  all-is i l =
      let n-is : min (get_or c.counts i 0) most_checks ≡ get_or c.counts i 0 = omega (arith, G.j_most i) in
      all_voting-at c.counts c.k i (omega (arith, G.k_most)) ∙ ap (λ n. from_digits n (λ q. 1)) n-is

  none-case : any ≡ 0 → (i : ℕ) → i < c.k → get_or (all_voting c.counts c.k) i 0 ≡ from_digits (count c i) (voting c erased u i)
  none-case z i l =
      all-is i l ∙ from_digits-same (count c i) _ _ (λ q lq. sym (every-votes c erased u (none-erased c erased u y any E z) i q))

  some-case : (i : ℕ) → i < c.k
      → stream_voters_by c.generators c.checks y c.k c.p i (get_or (all_voting c.counts c.k) i 0) ≡ from_digits (count c i) (voting c erased u i)
  unfolding stream_voters_by from_digits
  some-case i l =
      let all = from_digits (count c i) (λ q. 1) in
      let one : (q : ℕ) → q < count c i → 1 < 2 = λ q lq. omega arith in
      ap (λ a. sum_below most_checks (λ q. bit a q * voting_by c.generators c.checks y c.k c.p i q * 2 ^ q)) (all-is i l)
      ∙ sum-cut most_checks (count c i) _ (G.j_most i)
      (λ q lq. ap (λ x. x * voting_by c.generators c.checks y c.k c.p i q * 2 ^ q) (bit_high all (count c i) q (from_digits-lt (count c i) (λ q. 1) one) lq)
      ∙ ap (λ x. x * 2 ^ q) (zero-mul _) ∙ zero-mul (2 ^ q))
      ∙ sum_same (count c i) _ _
      (λ q lq. ap₂ (λ x v. x * v * 2 ^ q) (bit-from_digits (count c i) (λ q. 1) one q lq) (voting-is i q) ∙ ap (λ x. x * 2 ^ q) (one-mul _))

  -- the words of voters have the checks that vote by the rule
  pub voters-are : (i : ℕ) → i < c.k
      → get_or (voters_by c.generators c.counts c.checks y any c.k c.p) i 0 ≡ from_digits (count c i) (voting c erased u i)
  unfolding voters_by
  voters-are i l =
      ⊎_elim
      (λ (z : any ≡ 0). rw (eq-eqb any 0 z) (none-case z i l))
      (λ (z : any ≡ 0 → ⊥). rw (ne_eqb any 0 z) (up_to-at 4 _ i (omega (arith, G.k_most)) ∙ some-case i l))
      (same_or_not any 0)

  -- and the counts how many they are
  pub counts-are : (i : ℕ) → i < c.k →
      let words = voters_by c.generators c.counts c.checks y any c.k c.p in
      get_or (voters_of words).counts i 0 ≡ ones (get_or words i 0)
  counts-are i l = up_to-at 4 _ i (omega (arith, G.k_most))
