-- The vote on one syndrome register, its checks sorted: for information stream i, `alone` at i is the union of checks of one syndrome each, and
-- `several`, from `several_start i` on, has the other checks, `left` at i of them. Total for lists of every value. Nobody has to believe this file:
-- `sorted-decides` in proofs/Sorting.antt ties it to the vote on registers (`Voting`).
-- Assumes nothing.
use Rattle.std.specs.Prelude.{ℕ, ◌+◌, ◌*◌, ◌%◌, ◌≤◌, ◌<◌, min, cond, ◌≡◌, List, ◌∷◌, length, get_or, replicate, ltb}
use Rattle.std.specs.Int.Bits.{bit_and}
use Rattle.bits.specs.Sums.{sum_below}
use Rattle.bits.specs.Digits.{from_digits, dot}
use Rattle.code.specs.Limits.{most_checks}
use Rattle.vote.specs.Voting.{votes_by}

-- the checks of several syndromes of all four streams
abbrev pub several_words : ℕ
several_words = most_checks * 4

-- where those of stream i begin
abbrev pub several_start : ℕ → ℕ
several_start i = i * most_checks

-- a check that may be added to a union of checks: it is of one syndrome at most, which the union does not have
pub record Joins (mask alone : ℕ) : Type 0 where
  pub one : (word : ℕ) → dot mask word < 2
  pub apart : bit_and mask alone ≡ 0

-- how many of the first n checks of several syndromes that stand from `at` on are 1
unfoldable pub parities : List ℕ → ℕ → ℕ → ℕ → ℕ
parities several at n word = sum_below n (λ r. dot (get_or several (at + r) 0) word % 2)

-- how many of the sorted checks of stream i are 1
unfoldable pub votes_sorted : List ℕ → List ℕ → List ℕ → ℕ → ℕ → ℕ
votes_sorted alone several left i word = dot (get_or alone i 0) word + parities several (several_start i) (min (get_or left i 0) most_checks) word

-- the decided errors of a frame, for the streams and checks that the tables have
unfoldable pub decide_sorted : List ℕ → List ℕ → List ℕ → List ℕ → ℕ → ℕ → ℕ
decide_sorted counts alone several left word k =
    from_digits (min k 4) (λ i. cond (ltb (min (get_or counts i 0) most_checks) (2 * votes_sorted alone several left i word)) 1 0)

-- the sorted checks of each of the k streams count, on every word, what its checks count on that word as the first register
pub record Sorted (counts checks : List ℕ) (k : ℕ) (alone several left : List ℕ) : Type 0 where
  pub same : (i word : ℕ) → i < min k 4 → votes_sorted alone several left i word ≡ votes_by checks i (min (get_or counts i 0) most_checks) (word ∷ replicate 7 0) 1

-- the same of stream i alone and its first n checks, sorted into what `several` was, of which the streams before keep their part
pub record SortedStream (checks : List ℕ) (i n : ℕ) (was several : List ℕ) (alone left : ℕ) : Type 0 where
  pub room : length several ≡ several_words
  pub most : left ≤ n
  pub kept : (b : ℕ) → b < several_start i → get_or several b 0 ≡ get_or was b 0
  pub same : (word : ℕ) → dot alone word + parities several (several_start i) left word ≡ votes_by checks i n (word ∷ replicate 7 0) 1
