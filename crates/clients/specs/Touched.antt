-- What the pass over a check of Q's stream promises, and when words hold the same errors as others.
-- Assumes nothing.
use Rattle.std.specs.Prelude.{ℕ, ◌<◌, ◌≡◌, List, ◌∷◌, replicate}
use Rattle.code.specs.declared.Card.{Card}
use Rattle.orthogonal.specs.Pass.{holds, Passed, word_code, information_streams, parity_streams, first_masks}

-- Q's code, and a check of one mask, in the pass's words
abbrev pub code_q : Card
code_q = word_code (11 ∷ replicate 31 0) (information_streams 1) (parity_streams 1 1)

abbrev pub check_of : ℕ → ℕ → ℕ
check_of mask = first_masks (parity_streams 1 1) (mask ∷ replicate 7 0)

-- what is promised of that check after the errors touched before
abbrev pub After : ℕ → List ℕ → ℕ → List ℕ → Type 0
After mask before number after = Passed code_q 0 (check_of mask) before number after

-- the eight words hold these errors and no others
abbrev pub Holds : List ℕ → List ℕ → Type 0
Holds touched errors = (b s : ℕ) → b < 32 → s < 8 → holds touched b s ≡ holds errors b s
