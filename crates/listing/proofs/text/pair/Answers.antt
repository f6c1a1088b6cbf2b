use mathlib.Core.Path.{ap₂}
use mathlib.Core.List.{[], ◌∷◌}
use Prim.Native.Nat.{ℕ}
use Rattle.outcomes.proofs.Writing.{stored-as}
use Rattle.listing.proofs.text.pair.Goals as goal

pub returns : goal.returns
returns c = stored-as (ap₂ (λ (a b : ℕ). a ∷ b ∷ []) c.glyph.ensures c.glyph-2.ensures) c.put_all.ensures
