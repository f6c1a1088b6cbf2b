-- The loop has put a digit into the registers of the streams that it passed.
use Prim.Native.Nat.{◌/◌}
use mathlib.Core.Path.{◌≡◌}
use mathlib.Core.List.{◌++◌}
use lib.ListN.{get_or, drop}
use lib.Bits.{bit_xor}
use Rattle.bits.specs.Sums.{up_to}
use Rattle.bits.specs.Digits.{bit, shift_up}
use Rattle.digit_decoder.proofs.registers.put_decided.Given as goal

abbrev pub invariant-loop-i : goal.invariant-loop-i
invariant-loop-i l =
    l.registers ≡ up_to l.i (λ b. bit_xor (get_or l.initial.registers b 0 / 2) (shift_up (bit l.frame b) 31)) ++ drop l.i l.initial.registers
