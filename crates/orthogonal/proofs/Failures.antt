-- The numbers of the failures.
use Prim.Native.Nat.{◌≤◌}
use native.Mathlib.Omega.{arith}
use Rattle.orthogonal.specs.Judgements.{failure_number}
use Rattle.orthogonal.specs.declared.Failure.{Failure}
use Rattle.orthogonal.specs.declared.Failure.TheVariants.{OwnDigitUntouched, ErrorTouchedBefore}

-- no failure has the number 0
pub failure-least : (x : Failure) → 1 ≤ failure_number x
failure-least OwnDigitUntouched = omega arith
failure-least ErrorTouchedBefore = omega arith
