-- The most checks of a stream, document 01, "Checks", and what follows from it for the table of a card's checks: a check has a mask for each of eight parity
-- streams, and there are four information streams.
-- Assumes nothing.
use Rattle.std.specs.Prelude.{ℕ, ◌+◌, ◌*◌}

-- "J from 1 to 16", and document 02, R-13, "Make it the limit in place of 16": ten
abbrev pub most_checks : ℕ
most_checks = 10

-- from the checks of one stream to those of the next
abbrev pub check_stride : ℕ
check_stride = most_checks * 8

-- all of them
abbrev pub check_words : ℕ
check_words = check_stride * 4

-- where the masks of check q of stream i begin
abbrev pub check_start : ℕ → ℕ → ℕ
check_start i q = i * check_stride + q * 8
