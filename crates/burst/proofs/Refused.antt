-- A call that `?` ends early: what it hands back is the card's refusal.
use mathlib.Core.Path.{◌≡◌, sym, ap}
use mathlib.Core.Bool.{true≢false}
use Prim.Native.Nat.{ℕ}
use Rattle.std.specs.Prelude.{Result, Ok, Err}
use Rattle.std.specs.Result.{IsErr, IsErrAnd}
use Rattle.card.specs.declared.Refusal.{Refusal}

pub refusal-is : (came : Result ℕ Refusal) (refusal : Refusal) → IsErr came × IsErrAnd came (λ r. r ≡ refusal) → came ≡ Err refusal
refusal-is (Ok count) refusal w = absurd (true≢false (sym w.0))
refusal-is (Err r) refusal w = ap (λ (r : Refusal). Err r) w.1
