-- The loop has added the digits to the registers that it passed.
use mathlib.Core.Path.{◌≡◌}
use mathlib.Core.List.{◌++◌}
use lib.ListN.{get_or, drop}
use lib.Bits.{bit_xor}
use Rattle.bits.specs.Sums.{up_to}
use Rattle.bits.specs.Digits.{bit, shift_up}
use Rattle.code.proofs.put_digits.Given as goal

abbrev pub invariant-loop-s : goal.invariant-loop-s
invariant-loop-s l = l.registers ≡ up_to l.s (λ b. bit_xor (get_or l.initial.registers b 0) (shift_up (bit l.frame b) l.place)) ++ drop l.s l.initial.registers
