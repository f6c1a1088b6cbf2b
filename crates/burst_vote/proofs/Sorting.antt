-- The checks on one syndrome register sorted: a union of single syndromes votes by its ones, and sorted checks decide as the vote on registers does.
use Prim.Native.Nat.{ℕ, zero, suc, ◌+◌, ◌*◌, ◌%◌, ◌^◌, ◌≤◌, ◌<◌, min, max}
use mathlib.Core.Bool.{Bool, cond}
use mathlib.Core.Path.{◌≡◌, refl, sym, ap, ap₂, ◌∙◌}
use mathlib.Core.List.{List, ◌∷◌}
use mathlib.Core.Logic.{⊎_elim}
use native.Mathlib.Nat.{add-zero, mul-le-mul, mul-le-mul_left}
use native.Mathlib.Omega.{arith}
use lib.ListN.{length, get_or, set, replicate, length-set}
use lib.Seq.{get_or-set_same, get_or-set_other}
use lib.Bits.{bit_and, bit_or}
use lib.Count.{ones}
use lib.Dec.{ltb}
use mir.Val.{bool_byte}
use Rattle.bits.specs.Sums.{sum_below}
use Rattle.bits.specs.Digits.{bit, dot, from_digits, shift_up}
use Rattle.bits.proofs.Cases.{last-or-below, cond-le, bool-digit}
use Rattle.bits.proofs.Sums.{sum_same, sum-cong, sum-add, sum_more, sum_mono, sum-const}
use Rattle.bits.proofs.Digits.{bit_le, bit-and, bit-or, bit-of-zero, ones-sum, from_digits-lt, from_digits-same}
use Rattle.bits.proofs.Words.{placed-fits, placed-more}
use Rattle.code.specs.Limits.{most_checks, check_start}
use Rattle.vote.specs.Voting.{majority_by, check_by, votes_by, decide_by_all}
use Rattle.burst_vote.specs.Sorted.{several_words, several_start, Joins, parities, votes_sorted, decide_sorted, Sorted, SortedStream}

-- ---- what a union of checks has in common with a word

max-apart : (x y : ℕ) → x ≤ 1 → y ≤ 1 → y * x ≡ 0 → max x y ≡ x + y
max-apart zero y h l e = omega arith
max-apart (suc zero) y h l e = omega arith
max-apart (suc (suc x)) y h l e = absurd (omega arith)

-- each digit stands in one of the two
pub dot-of-union : (x y word : ℕ) → bit_and y x ≡ 0 → dot (bit_or x y) word ≡ dot x word + dot y word
unfolding dot
dot-of-union x y word e =
    sum-cong 32 (λ a. ap (λ d. d * bit word a) (bit-or x y a ∙ max-apart _ _ (bit_le x a) (bit_le y a) (sym (bit-and y x a) ∙ ap (λ n. bit n a) e ∙ bit-of-zero a)) ∙ omega arith)
    ∙ sum-add 32 _ _

-- no more than the mask has ones
pub dot-le-ones : (x word : ℕ) → x < 2 ^ 32 → dot x word ≤ ones x
unfolding dot
dot-le-ones x word h = rw (ones-sum 32 x h) (sum_mono 32 _ _ (λ a l. omega (arith, mul-le-mul_left (bit x a) (bit_le word a))))

-- nor than 32
pub dot-le-32 : (x word : ℕ) → dot x word ≤ 32
unfolding dot
dot-le-32 x word = omega (arith, sum_mono 32 (λ a. bit x a * bit word a) (λ a. 1) (λ a l. omega (arith, mul-le-mul (bit_le x a) (bit_le word a))), sum-const 32 1)

-- ---- one register

-- the check whose mask stands at `at`
check-one : (checks : List ℕ) (at word : ℕ) → check_by checks at (word ∷ replicate 7 0) 1 ≡ dot (get_or checks at 0) word % 2
unfolding check_by sum_below
check-one checks at word = ap (λ n. (0 + dot (get_or checks n 0) word) % 2) (add-zero at) ∙ omega arith

votes-more : (checks : List ℕ) (i q word : ℕ)
    → votes_by checks i (q + 1) (word ∷ replicate 7 0) 1 ≡ votes_by checks i q (word ∷ replicate 7 0) 1 + dot (get_or checks (check_start i q) 0) word % 2
unfolding votes_by
votes-more checks i q word = omega (arith, sum_more q (λ r. check_by checks (check_start i r) (word ∷ replicate 7 0) 1), check-one checks (check_start i q) word)

-- ---- one stream

-- no check, and nothing sorted
pub none-sorted : (checks : List ℕ) (i : ℕ) (several : List ℕ) → length several ≡ several_words → SortedStream checks i 0 several several 0 0
unfolding parities votes_by sum_below ones
none-sorted checks i several h = record { room = h; most = omega arith; kept = λ b l. refl; same = λ word. omega (arith, dot-le-ones 0 word (omega arith)) }

module _ {checks : List ℕ} {i q : ℕ} {was several : List ℕ} {alone left : ℕ} (S : SortedStream checks i q was several alone left) where
  -- a check more, in the union
  pub joined : Joins (get_or checks (check_start i q) 0) alone → SortedStream checks i (q + 1) was several (bit_or alone (get_or checks (check_start i q) 0)) left
  unfolding parities
  joined J =
      let mask = get_or checks (check_start i q) 0 in
      record {
        room = S.room;
        most = omega (arith, S.most);
        kept = S.kept;
        same = λ word.
            omega (arith, dot-of-union alone mask word J.apart, J.one word, S.same word, votes-more checks i q word);
      }

  -- or in the list
  pub listed : i < 4 → q < most_checks
      → SortedStream checks i (q + 1) was (set several (several_start i + left) (get_or checks (check_start i q) 0)) alone (left + 1)
  unfolding parities
  listed hi hq =
      let at = several_start i + left in
      let mask = get_or checks (check_start i q) 0 in
      let l : left ≤ q = S.most in
      record {
        room = length-set several at mask ∙ S.room;
        most = omega arith;
        kept = λ b lb. get_or-set_other several at b mask 0 (λ e. omega arith) ∙ S.kept b lb;
        same = λ word.
            let f : ℕ → ℕ = λ r. dot (get_or (set several at mask) (several_start i + r) 0) word % 2 in
            let last : f left ≡ dot mask word % 2 = ap (λ x. dot x word % 2) (get_or-set_same several at mask 0 (omega (arith, S.room))) in
            let rest = sum_same left f (λ r. dot (get_or several (several_start i + r) 0) word % 2) (λ r lr. ap (λ x. dot x word % 2) (get_or-set_other several at (several_start i + r) mask 0 (λ e. omega arith))) in
            omega (arith, sum_more left f, S.same word, votes-more checks i q word);
      }

-- ---- all streams

pub no_stream : (counts checks alone several left : List ℕ) → Sorted counts checks 0 alone several left
no_stream counts checks alone several left = record { same = λ i word l. absurd (omega arith) }

-- a stream more
module _ {counts checks alone several left after : List ℕ} {i x n : ℕ} (h : i < 4) (la : length alone ≡ 4) (ll : length left ≡ 4)
    (S : Sorted counts checks i alone several left) (T : SortedStream checks i (min (get_or counts i 0) most_checks) several after x n) where
  votes-here : (word : ℕ) → votes_sorted (set alone i x) after (set left i n) i word ≡ votes_by checks i (min (get_or counts i 0) most_checks) (word ∷ replicate 7 0) 1
  unfolding votes_sorted
  votes-here word =
      let few : min n most_checks ≡ n = omega (arith, T.most) in
      ap₂ (λ d r. dot d word + parities after (several_start i) (min r most_checks) word) (get_or-set_same alone i x 0 (omega arith)) (get_or-set_same left i n 0 (omega arith))
      ∙ ap (λ r. dot x word + parities after (several_start i) r word) few
      ∙ T.same word

  votes-before : (b word : ℕ) → b < i → votes_sorted (set alone i x) after (set left i n) b word ≡ votes_sorted alone several left b word
  unfolding votes_sorted parities
  votes-before b word l =
      ap₂ (λ d r. dot d word + parities after (several_start b) (min r most_checks) word) (get_or-set_other alone i b x 0 (λ e. omega arith)) (get_or-set_other left i b n 0 (λ e. omega arith))
      ∙ ap (λ s. dot (get_or alone b 0) word + s) (sum_same (min (get_or left b 0) most_checks) _ _ (λ r lr. ap (λ m. dot m word % 2) (T.kept (several_start b + r) (omega arith))))

  pub stream-more : Sorted counts checks (i + 1) (set alone i x) after (set left i n)
  stream-more =
      record {
        same = λ b word l.
            ⊎_elim (λ e. rw e (votes-here word)) (λ before. votes-before b word before ∙ S.same b word (omega arith)) (last-or-below {i = b} {n = i} (omega arith));
      }

-- ---- the decided errors, one stream after the other
module _ (counts alone several left : List ℕ) (word : ℕ) where
  -- the decided error of stream i
  abbrev pub error_sorted : ℕ → ℕ
  error_sorted i = cond (ltb (min (get_or counts i 0) most_checks) (2 * votes_sorted alone several left i word)) 1 0

  pub error-sorted : (i : ℕ) {n v : ℕ} {more : Bool} {d : ℕ} → n ≡ min (get_or counts i 0) most_checks → v ≡ votes_sorted alone several left i word
      → more ≡ ltb n (2 * v) → d ≡ bool_byte more → d ≡ error_sorted i
  error-sorted i en ev em ed = ed ∙ bool-digit _ ∙ ap (λ b. cond b 1 0) (em ∙ ap₂ (λ n v. ltb n (2 * v)) en ev)

  error-lt : (i : ℕ) → error_sorted i < 2
  error-lt i = let l = cond-le (ltb (min (get_or counts i 0) most_checks) (2 * votes_sorted alone several left i word)) 1 0 1 (omega arith) (omega arith) in omega arith

  -- one stream more
  pub error-more : (i : ℕ) {e d : ℕ} → i < 32 → e ≡ from_digits i error_sorted → d ≡ error_sorted i → (e + shift_up d i < 2 ^ 32) × (e + shift_up d i ≡ from_digits (i + 1) error_sorted)
  error-more i {e} {d} h q r =
      let le : e < 2 ^ i = rw q (from_digits-lt i error_sorted (λ a l. error-lt a)) in
      let ld : d < 2 = rw r (error-lt i) in
      (placed-fits e d i le ld h, placed-more e d i le ld h error_sorted q r)

-- sorted checks decide as the vote on registers does, the word the first register
pub sorted-decides : (counts checks alone several left : List ℕ) (word k : ℕ)
    → Sorted counts checks k alone several left
    → decide_sorted counts alone several left word k ≡ decide_by_all counts checks (word ∷ replicate 7 0) k 1
unfolding decide_sorted decide_by_all majority_by
sorted-decides counts checks alone several left word k S =
    from_digits-same (min k 4) _ _ (λ i l. ap (λ v. cond (ltb (min (get_or counts i 0) most_checks) (2 * v)) 1 0) (S.same i word l))

-- one stream whose checks are of one syndrome each
votes-alone : (alone several left : List ℕ) (word : ℕ) → get_or left 0 0 ≡ 0 → votes_sorted alone several left 0 word ≡ dot (get_or alone 0 0) word
unfolding votes_sorted parities sum_below
votes-alone alone several left word z =
    ap (λ n. dot (get_or alone 0 0) word + sum_below (min n most_checks) (λ r. dot (get_or several (several_start 0 + r) 0) word % 2)) z ∙ add-zero (dot (get_or alone 0 0) word)

first-digit : {x y : ℕ} → x ≡ y → x ≡ 0 + y * 1
first-digit e = omega arith

pub alone-decides : (counts alone several left : List ℕ) (word : ℕ) {n v : ℕ} {more : Bool} {r : ℕ} → get_or left 0 0 ≡ 0 → n ≡ min (get_or counts 0 0) most_checks
    → v ≡ dot (get_or alone 0 0) word → more ≡ ltb n (2 * v) → r ≡ bool_byte more → r ≡ decide_sorted counts alone several left word 1
unfolding decide_sorted from_digits sum_below
alone-decides counts alone several left word z en ev em er =
    first-digit (error-sorted counts alone several left word 0 en (ev ∙ sym (votes-alone alone several left word z)) em er)
