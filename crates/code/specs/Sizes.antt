-- The sizes of a card, for numbers of every value: its streams are held to what the tables have, four information streams and eight in all.
-- Assumes nothing.
use Rattle.std.specs.Prelude.{ℕ, ◌+◌, ◌-◌, min}
use Rattle.code.specs.declared.Sizes.{Sizes}

abbrev pub information_of : ℕ → ℕ
information_of k = min k 4

abbrev pub parity_of : ℕ → ℕ → ℕ
parity_of k p = min p (8 - min k 4)

abbrev pub sizes_of : ℕ → ℕ → ℕ → Sizes
sizes_of k p m = record { k = information_of k; p = parity_of k p; n = information_of k + parity_of k p; m = m }
