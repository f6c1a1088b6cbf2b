-- Beside those of document 01's bench, a card with two parity streams, whose written form is computed.
-- Assumes nothing.
use Rattle.std.specs.Prelude.{ℕ, ◌-◌, List, ◌∷◌, ◌++◌, replicate}
use Rattle.code.specs.Limits.{check_words}
use Rattle.code.specs.declared.Card.{Card}
use Rattle.card.specs.Bench.{mask}

-- k 1, n 3, m 0: parity stream 1 has generator 1, parity stream 2 none, and the one check is s0 of parity stream 1
abbrev pub W : Card
W =
    record { number = 11; k = 1; p = 2; m = 0; generators = 1 ∷ replicate 31 0; counts = 1 ∷ replicate 3 0; checks = 1 ∷ replicate (check_words - 1) 0 }

-- from m on
abbrev rest_w : List ℕ
rest_w = 0 ∷ 1 ∷ 0 ∷ mask 1 ++ 1 ∷ 1 ∷ mask 1

-- n stands, and no mask of parity stream 2
abbrev pub card_w : List ℕ
card_w = 2 ∷ 11 ∷ 3 ∷ rest_w

-- as it may be stored: k stated as 1
abbrev pub stored_w : List ℕ
stored_w = 3 ∷ 11 ∷ 1 ∷ 3 ∷ rest_w
