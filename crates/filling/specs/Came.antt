-- How many bytes a reading brought: to the input's end or until there was no more room, or before a read that failed.
-- Assumes nothing.
use Rattle.std.specs.Prelude.{ℕ, Result, Ok, Err}

abbrev pub came : Result ℕ ℕ → ℕ
came (Ok n) = n
came (Err n) = n
