-- The loop has put a digit into the registers of the streams that it passed.
use mathlib.Core.Path.{◌≡◌}
use mathlib.Core.List.{◌++◌}
use lib.ListN.{get_or, drop}
use Rattle.bits.specs.Sums.{up_to}
use Rattle.bits.specs.Digits.{bit}
use Rattle.code.specs.Registers.{shift_in}
use Rattle.code.proofs.put_history.Given as goal

abbrev pub invariant-loop-i : goal.invariant-loop-i
invariant-loop-i l = l.registers ≡ up_to l.i (λ b. shift_in (get_or l.initial.registers b 0) (bit l.frame b)) ++ drop l.i l.initial.registers
