-- The fields of card P: document 01, "Cards on the bench" and "The card".
-- Assumes nothing.
use Rattle.std.specs.Prelude.{ℕ, [], ◌∷◌}
use Rattle.card.specs.Fields.{Fields}

-- m 1, generator 3, checks s0 and s1; this bit says whether k and n stand
abbrev pub stating : ℕ → Fields
stating bit =
    record {
      head = record { k_stands = bit; n_stands = bit; number = 7; k = 1; n = 2; m = 1 };
      rows = (3 ∷ []) ∷ [];
      streams = record { count = 2; checks = (1 ∷ []) ∷ (2 ∷ []) ∷ [] } ∷ [];
    }

abbrev pub fields_p : Fields
fields_p = stating 0

-- as they may be stored since before R-4
abbrev pub stored_fields_p : Fields
stored_fields_p = stating 1
