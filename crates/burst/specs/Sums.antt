-- The tables of generator sums. Nobody has to believe this file.
-- Assumes nothing.
use Rattle.std.specs.Prelude.{ℕ, ◌<◌, ◌≡◌, List, [], get_or}
use Rattle.code.specs.Registers.{generator_sum}

-- the table has the sums of each x below n on parity stream j, that of x at x
abbrev pub HasStreamSums : List ℕ → ℕ → ℕ → ℕ → List ℕ → Type 0
HasStreamSums g k j n sums = (x : ℕ) → x < n → get_or sums x 0 ≡ generator_sum g k x j

-- the tables of p parity streams have them
abbrev pub HasSums : List ℕ → ℕ → ℕ → ℕ → List (List ℕ) → Type 0
HasSums g k p n sums = (j : ℕ) → j < p → HasStreamSums g k j n (get_or sums j [])
