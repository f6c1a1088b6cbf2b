-- The loop has decided the errors of the streams that it passed.
use Prim.Native.Nat.{ℕ, ◌^◌, ◌<◌}
use mathlib.Core.Bool.{Bool, cond}
use mathlib.Core.Path.{◌≡◌}
use Rattle.bits.specs.Digits.{from_digits}
use Rattle.vote.proofs.decided.Given as goal

abbrev pub invariant-loop-i : goal.invariant-loop-i
invariant-loop-i g l =
    (l.errors < 2 ^ l.i)
    × ((d : ℕ → Bool) → ((i : ℕ) → i < 4 → (b : Bool) → goal.F-post g l.wrong i b → b ≡ d i) → l.errors ≡ from_digits l.i (λ i. cond (d i) 1 0))
