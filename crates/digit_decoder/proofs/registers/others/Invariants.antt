-- The loop has filled the sums of the parity streams that it passed.
use Prim.Native.Nat.{◌*◌}
use mathlib.Core.Path.{◌≡◌}
use mathlib.Core.List.{◌++◌}
use lib.ListN.{get_or, drop, replicate}
use lib.Bits.{bit_xor}
use Rattle.bits.specs.Sums.{up_to}
use Rattle.code.specs.Registers.{generator_mask}
use Rattle.digit_decoder.proofs.registers.others.Given as goal

abbrev pub invariant-loop-j : goal.invariant-loop-j
invariant-loop-j l = l.next ≡ up_to l.j (λ b. bit_xor (get_or l.sums b 0) (generator_mask l.generators l.i b * l.own)) ++ drop l.j (replicate 8 0)
