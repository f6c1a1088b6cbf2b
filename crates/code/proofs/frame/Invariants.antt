-- The loop has put the parity digits that it passed after the information digits.
use Prim.Native.Nat.{◌+◌, min}
use mathlib.Core.Path.{◌≡◌}
use Rattle.bits.specs.Digits.{from_digits}
use Rattle.code.specs.Registers.{digit_by}
use Rattle.code.proofs.frame.Given as goal

abbrev pub invariant-loop-j : goal.invariant-loop-j
invariant-loop-j l = l.digits ≡ from_digits (min l.k 4 + l.j) (digit_by l.generators l.registers l.k l.info)
