-- Bytes at the front of a lent output that always has room for them.
-- Assumes nothing.
use Rattle.std.specs.Prelude.{ℕ, ◌≤◌, ◌≡◌, List, ◌++◌, length, drop}

pub record AtFront (room : ℕ) (bytes output : List ℕ) (count : ℕ) (after : List ℕ) : Type 0 where
  -- the count of the bytes ..
  pub count_is : count ≡ length bytes
  -- .. which stand at the front of the output, and after them the output is as it was
  pub bytes_are : after ≡ bytes ++ drop (length bytes) output
  pub within : count ≤ room
