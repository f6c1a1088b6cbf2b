-- Massey's second circuit on whole streams: document 02, R-2, with erased digits by R-6: it "drops the same votes". It keeps received digits and no
-- syndromes: each check votes on the digit itself.
-- `frames` and `erased` are as in the rule (`Rule`), `digits` the frames decided so far, which are those handed out.
-- Assumes nothing.
use Rattle.std.specs.Prelude.{ℕ, suc, ◌+◌, ◌-◌, ◌*◌, ◌%◌, cond, List, length, ltb}
use Rattle.bits.specs.Sums.{sum_below, back, grown}
use Rattle.bits.specs.Digits.{bit, from_digits}
use Rattle.code.specs.Code.{generator, digit}
use Rattle.code.specs.Checks.{count, check_mask, besides}
use Rattle.code.specs.declared.Card.{Card}
use Rattle.majority.specs.Rule.{voting, voters}

-- the digit of stream s at v as it enters a vote on digit i at u: decided for times before u, else received, and the digit itself left out
unfoldable pub entering : List ℕ → List ℕ → ℕ → ℕ → ℕ → ℕ → ℕ
entering frames digits u i s v = cond (ltb v u) (digit digits s v) (besides i (v - u) s * digit frames s v)

-- the vote of check q of stream i at u: for each of its pairs (a, j) the digit of parity stream j at u + a and the information digits that this
-- parity digit is worked out from, all added up
unfoldable pub vote : Card → List ℕ → List ℕ → ℕ → ℕ → ℕ → ℕ
vote c frames digits u i q =
    let x = entering frames digits u i in
    sum_below c.p
    (λ j.
    sum_below (suc c.m)
    (λ a.
    bit (check_mask c i q j) a
    * (x (c.k + j) (u + a) + sum_below c.k (λ s. sum_below (suc c.m) (λ b. generator c s j b * back (x s) (u + a) b)))))
    % 2

-- the number of votes for 1
unfoldable pub votes_for_one : Card → List ℕ → List ℕ → List ℕ → ℕ → ℕ → ℕ
votes_for_one c frames erased digits u i = sum_below (count c i) (λ q. voting c erased u i q * vote c frames digits u i q)

-- digit i at u: the majority of the votes, and a tie goes to the received digit
unfoldable pub decide_digit : Card → List ℕ → List ℕ → List ℕ → ℕ → ℕ → ℕ
decide_digit c frames erased digits u i =
    let J = voters c erased u i in
    let ones = votes_for_one c frames erased digits u i in
    cond (ltb J (2 * ones)) 1 (cond (ltb (2 * ones) J) 0 (digit frames i u))

-- the frame of time u, whose digits enter each other's votes as received
unfoldable pub decide_digits : Card → List ℕ → List ℕ → List ℕ → ℕ → ℕ
decide_digits c frames erased digits u = from_digits c.k (decide_digit c frames erased digits u)

-- the first n frames as decided
unfoldable pub decided_digits : Card → List ℕ → List ℕ → ℕ → List ℕ
decided_digits c frames erased n = grown (decide_digits c frames erased) n

-- the frames handed out: none for the first m received, then for each one the frame m before it
unfoldable pub decoded_by_digits : Card → List ℕ → List ℕ → List ℕ
decoded_by_digits c frames erased = decided_digits c frames erased (length frames - c.m)
