-- A line that was stored, as another that is equal to it, in no less room.
use Prim.Native.Nat.{ℕ, ◌≤◌}
use mathlib.Core.Path.{◌≡◌, ap}
use mathlib.Core.List.{List}
use native.Mathlib.Omega.{arith}
use lib.ListN.{length}
use Rattle.outcomes.specs.declared.cursor.Cursor.{Cursor}
use Rattle.outcomes.proofs.Writing.{stored-as}
use Rattle.listing.specs.Written.{StoredLine}

pub line-as : {before after : Cursor} {least most : ℕ} {s t : List ℕ} → s ≡ t → least ≤ most → StoredLine least before after s → StoredLine most before after t
line-as e l w = record { stored = stored-as e w.stored; within = omega (arith, w.within, ap length e) }
