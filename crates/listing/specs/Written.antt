-- What the functions of this crate promise to each other. Nobody has to believe this file: the promise of `list` does not speak of it.
-- Assumes nothing.
use Rattle.std.specs.Prelude.{ℕ, ◌≤◌, ◌≡◌, List, ◌∷◌, ◌++◌, length}
use Prim.Native.Char.{code}
use Rattle.code.specs.Guarantees.{Guarantees}
use Rattle.card.specs.Outcome.{accepted}
use Rattle.card.specs.Reading.{read_card}
use Rattle.code.specs.declared.Card.{Card}
use Rattle.outcomes.specs.Text.{decimal}
use Rattle.outcomes.specs.Wrote.{Stored}
use Rattle.outcomes.specs.declared.cursor.Cursor.{Cursor}

-- a letter between two spaces, and a number
abbrev pub lettered : ℕ → ℕ → List ℕ
lettered letter n = code " " ∷ letter ∷ code " " ∷ decimal n

-- the sizes in a card's line, each after its letter
abbrev pub sizes : ℕ → ℕ → ℕ → List ℕ
sizes k n m = (lettered (code "k") k ++ lettered (code "n") n) ++ lettered (code "m") m

-- the text was stored, and is no longer than `most`
pub record StoredLine (most : ℕ) (before after : Cursor) (written : List ℕ) : Type 0 where
  pub stored : Stored before after written
  pub within : length written ≤ most

-- the bytes are those of the card c, which is accepted
pub record ReadAs (bytes : List ℕ) (c : Card) : Type 0 where
  pub card_accepted : (read_card bytes).outcome ≡ accepted
  pub card_is : c ≡ (read_card bytes).card
  pub guaranteed : Guarantees c
