-- Massey's majority rule with feedback on whole streams: document 01, "Checks", with erased digits by document 02, R-6.
-- `frames` are the received frames from time 0 on, an erased digit received as 0, and `erased` has a 1 for each digit of theirs that is erased; `errors`
-- are the decided errors of the frames before the one that is decided, a digit for each information stream. All three are lists of frames as in the
-- code (`code`, `Code`). The case in which nothing is erased is that of a burst (`Plain`).
-- Assumes nothing.
use Rattle.std.specs.Prelude.{ℕ, suc, ◌+◌, ◌-◌, ◌*◌, ◌%◌, cond, List, length, ltb}
use Rattle.bits.specs.Sums.{sum_below, up_to, grown}
use Rattle.bits.specs.Digits.{bit, from_digits}
use Rattle.code.specs.Code.{digit, parity_at}
use Rattle.code.specs.Checks.{count, check_mask}
use Rattle.code.specs.Judging.{clashes}
use Rattle.code.specs.declared.Card.{Card}

-- s (u, j): the received parity digit plus the parity worked out from the received information digits
unfoldable pub syndrome : Card → List ℕ → ℕ → ℕ → ℕ
syndrome c frames u j = (digit frames (c.k + j) u + parity_at c frames j u) % 2

-- the syndrome with every digit error already decided taken out of it
unfoldable pub cleared : Card → List ℕ → List ℕ → ℕ → ℕ → ℕ
cleared c frames errors u j = (syndrome c frames u j + parity_at c errors j u) % 2

-- check q of stream i, used at u: the sum of the s (u + a, j) over its pairs (a, j)
unfoldable pub check_at : Card → List ℕ → List ℕ → ℕ → ℕ → ℕ → ℕ
check_at c frames errors u i q =
    sum_below c.p (λ j. sum_below (suc c.m) (λ a. bit (check_mask c i q j) a * cleared c frames errors (u + a) j)) % 2

-- 1 if check q of stream i, used at u, votes: "a check that touches an erased digit other than its own, at a time not yet decided, doesn't vote"
unfoldable pub voting : Card → List ℕ → ℕ → ℕ → ℕ → ℕ
voting c erased u i q = 1 - clashes c i (check_mask c i q) (λ b s. digit erased s (u + b))

-- "J in the decision is the number of checks that do"
unfoldable pub voters : Card → List ℕ → ℕ → ℕ → ℕ
voters c erased u i = sum_below (count c i) (voting c erased u i)

-- the number of those equal to 1
unfoldable pub votes : Card → List ℕ → List ℕ → List ℕ → ℕ → ℕ → ℕ
votes c frames erased errors u i = sum_below (count c i) (λ q. voting c erased u i q * check_at c frames errors u i q)

-- the decided error of digit i at u: 1 exactly if twice the number of voting checks equal to 1 is more than J; a tie gives 0, and so does no vote
unfoldable pub decide : Card → List ℕ → List ℕ → List ℕ → ℕ → ℕ → ℕ
decide c frames erased errors u i = cond (ltb (voters c erased u i) (2 * votes c frames erased errors u i)) 1 0

-- all streams of frame u are decided before any is fed back
unfoldable pub decide_frame : Card → List ℕ → List ℕ → List ℕ → ℕ → ℕ
decide_frame c frames erased errors u = from_digits c.k (decide c frames erased errors u)

-- the decided errors of the first n frames
unfoldable pub decided : Card → List ℕ → List ℕ → ℕ → List ℕ
decided c frames erased n = grown (decide_frame c frames erased) n

-- the frame of time u as it is handed out: received plus decided
unfoldable pub corrected : Card → List ℕ → List ℕ → ℕ → ℕ
corrected c frames errors u = from_digits c.k (λ i. (digit frames i u + digit errors i u) % 2)

-- the frames handed out: none for the first m received, then for each one the frame m before it
unfoldable pub decoded : Card → List ℕ → List ℕ → List ℕ
decoded c frames erased = up_to (length frames - c.m) (corrected c frames (decided c frames erased (length frames - c.m)))

-- document 01's "link figure": the count of ones in the cleared syndromes of received frames later than the last frame handed out
unfoldable pub figure_by : Card → List ℕ → List ℕ → ℕ
figure_by c frames erased =
    let u = length frames - c.m in
    sum_below c.p (λ j. sum_below (length frames - u) (λ a. cleared c frames (decided c frames erased u) (u + a) j))
