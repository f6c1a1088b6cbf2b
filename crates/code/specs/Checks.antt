-- Which errors a check touches, and when the checks of a stream are orthogonal: document 01, "Checks".
-- An error (b, s) is that of stream s, information or parity, b frames after the one that is decided.
-- Assumes nothing.
use Rattle.std.specs.Prelude.{ℕ, suc, ◌+◌, ◌-◌, ◌*◌, ◌%◌, ◌≤◌, ◌<◌, ◌≡◌, cond, get_or, ltb, eqb}
use Rattle.bits.specs.Sums.{sum_below, back}
use Rattle.bits.specs.Digits.{bit}
use Rattle.code.specs.Code.{generator}
use Rattle.code.specs.Limits.{check_start}
use Rattle.code.specs.declared.Card.{Card}

-- J, the number of checks for stream i
unfoldable pub count : Card → ℕ → ℕ
count c i = get_or c.counts i 0

-- a check is a set of pairs (a, j), written as one mask of offsets a for each parity stream j: that of check q of stream i
unfoldable pub check_mask : Card → ℕ → ℕ → ℕ → ℕ
check_mask c i q j = get_or c.checks (check_start i q + j) 0

-- 1 if a check with these masks touches the information error (b, s): the sum of g (s, j, a - b) over its pairs (a, j) with a ≥ b
unfoldable pub touches_info : Card → (ℕ → ℕ) → ℕ → ℕ → ℕ
touches_info c mask b s = sum_below c.p (λ j. sum_below (suc c.m) (λ a. bit (mask j) a * back (generator c s j) a b)) % 2

-- 1 if a check with these masks touches the error (b, s), which is a parity error, touched if the pair is in the check, from stream k on
unfoldable pub touches_by : Card → (ℕ → ℕ) → ℕ → ℕ → ℕ
touches_by c mask b s = cond (ltb s c.k) (touches_info c mask b s) (bit (mask (s - c.k)) b)

-- 1 if check q of stream i touches the error (b, s)
unfoldable pub touches : Card → ℕ → ℕ → ℕ → ℕ → ℕ
touches c i q b s = touches_by c (check_mask c i q) b s

-- 0 for the own digit of a check of stream i, (0, i), and 1 for every other digit (b, s)
unfoldable pub besides : ℕ → ℕ → ℕ → ℕ
besides i b s = cond (eqb b 0) (cond (eqb s i) 0 1) 1

-- the checks for stream i are orthogonal: each touches (0, i), and no other error is touched by two of them
pub record Orthogonal (c : Card) (i : ℕ) : Type 0 where
  pub own : (q : ℕ) → q < count c i → touches c i q 0 i ≡ 1
  pub apart : (b s q r : ℕ) → b ≤ c.m → s < c.k + c.p → (b ≡ 0 → s ≡ i → ⊥) → q < r → r < count c i
      → touches c i q b s ≡ 1 → touches c i r b s ≡ 1 → ⊥
