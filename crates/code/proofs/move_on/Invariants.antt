-- The loop has moved the digits of the registers that it passed.
use Prim.Native.Nat.{◌/◌}
use mathlib.Core.Path.{◌≡◌}
use mathlib.Core.List.{◌++◌}
use lib.ListN.{get_or, drop}
use Rattle.bits.specs.Sums.{up_to}
use Rattle.code.proofs.move_on.Given as goal

abbrev pub invariant-loop-register : goal.invariant-loop-register
invariant-loop-register l = l.registers ≡ up_to l.register-index (λ b. get_or l.initial.registers b 0 / 2) ++ drop l.register-index l.initial.registers
