-- Document 01's example of a listing: card P and frame bytes 3, 3, 3, 2.
-- Assumes nothing.
use Rattle.std.specs.Prelude.{ℕ, List}
use Rattle.outcomes.specs.Text.{text}

abbrev pub listed_p : List ℕ
listed_p = text "card 7 k 1 n 2 m 1\n0 1\n1 0\n2 1\nend 3\n"
