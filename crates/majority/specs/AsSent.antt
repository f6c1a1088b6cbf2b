-- When a received stream is correctable: the condition of the notice's third term, by document 01, "What comes out as sent", in the form that document
-- 02, R-6, gives it. `frames` and `erased` are as in the rule (`Rule`); where nothing is erased it is the former condition (proofs/Plain.antt).
-- Assumes nothing.
use Rattle.std.specs.Prelude.{ℕ, suc, ◌+◌, ◌-◌, ◌*◌, ◌/◌, ◌%◌, ◌≤◌, ◌<◌, min, List, length}
use Rattle.bits.specs.Sums.{sum_below}
use Rattle.code.specs.Code.{digit, sent}
use Rattle.code.specs.Checks.{count, touches, besides}
use Rattle.code.specs.declared.Card.{Card}
use Rattle.majority.specs.Rule.{voting, voters}

-- 1 if the received digit of stream s at u differs from the sent one: an erased digit, received as 0, "is wrong if 1 was sent"
unfoldable pub wrong : Card → List ℕ → List ℕ → ℕ → ℕ → ℕ
wrong c info frames u s = (digit frames s u + digit (sent c info) s u) % 2

-- 1 if, for digit i at u, at least one of its voting checks touches the error (b, s), or (b, s) is the digit itself, "included even when none votes": each
-- digit is counted once
unfoldable pub touched : Card → List ℕ → ℕ → ℕ → ℕ → ℕ → ℕ
touched c erased u i b s = min 1 (1 - besides i b s + sum_below (count c i) (λ q. voting c erased u i q * touches c i q b s))

-- for digit i at u: the number of wrong digits among those at u + b, in any information or parity stream, that are touched
unfoldable pub wrong_touched : Card → List ℕ → List ℕ → List ℕ → ℕ → ℕ → ℕ
wrong_touched c info frames erased u i =
    sum_below (suc c.m) (λ b. sum_below (c.k + c.p) (λ s. touched c erased u i b s * wrong c info frames (u + b) s))

-- for each information digit, tail not among them, that number is at most half of the votes, rounded down
abbrev pub Correctable : Card → List ℕ → List ℕ → List ℕ → Type 0
Correctable c info frames erased =
    (u i : ℕ) → u < length info → i < c.k → wrong_touched c info frames erased u i ≤ voters c erased u i / 2
