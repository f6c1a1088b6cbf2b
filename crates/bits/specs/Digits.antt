-- The digits of a number, counted from 0, the lowest first.
-- Assumes nothing.
use Rattle.std.specs.Prelude.{ℕ, ◌*◌, ◌/◌, ◌%◌, ◌^◌, Bool, false, ◌||◌, List, [], ◌∷◌, leb}
use Rattle.bits.specs.Sums.{sum_below}

-- digit a of x
unfoldable pub bit : ℕ → ℕ → ℕ
bit x a = x / 2 ^ a % 2

-- the number with the digits d 0, .., d (n - 1)
unfoldable pub from_digits : ℕ → (ℕ → ℕ) → ℕ
from_digits n d = sum_below n (λ a. d a * 2 ^ a)

-- in how many of the 32 places both words have a 1
unfoldable pub dot : ℕ → ℕ → ℕ
dot x y = sum_below 32 (λ a. bit x a * bit y a)

-- x moved up by a places in a word, what goes beyond its 32 places lost
unfoldable pub shift_up : ℕ → ℕ → ℕ
shift_up x a = x * 2 ^ a % 2 ^ 32

-- whether some frame has a digit at stream n or beyond
unfoldable pub any_beyond : ℕ → List ℕ → Bool
any_beyond n [] = false
any_beyond n (f ∷ frames) = leb (2 ^ n) f || any_beyond n frames
