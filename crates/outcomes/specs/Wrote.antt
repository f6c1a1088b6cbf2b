-- Bytes put into a lent output at a cursor's place: what the functions that lay out a listing or a card promise to each other.
-- Assumes nothing.
use Rattle.std.specs.Prelude.{ℕ, min, ◌-◌, ◌+◌, ◌^◌, ◌<◌, ◌≡◌, List, length}
use Rattle.std.proofs.lemmas.List.Edits.{sets}
use Rattle.outcomes.specs.declared.cursor.Cursor.{Cursor}

-- the bytes were stored one by one from the cursor's place on, as many as there is room for, and the place moved behind them, as far as a number
-- names places; the output is the same one
pub record Stored (before after : Cursor) (written : List ℕ) : Type 0 where
  pub same_output : after.output.ghost_name ≡ before.output.ghost_name
  pub length_most : length before.output.now < 2 ^ 63
  pub output_is : after.output.now ≡ sets before.output.now before.at written
  pub at_is : after.at ≡ before.at + min (length written) (2 ^ 64 - 1 - before.at)
