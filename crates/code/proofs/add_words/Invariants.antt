-- The loop has added the words to the registers that it passed.
use mathlib.Core.Path.{◌≡◌}
use mathlib.Core.List.{◌++◌}
use lib.ListN.{get_or, drop}
use lib.Bits.{bit_xor}
use Rattle.bits.specs.Sums.{up_to}
use Rattle.code.proofs.add_words.Given as goal

abbrev pub invariant-loop-s : goal.invariant-loop-s
invariant-loop-s l = l.registers ≡ up_to l.s (λ b. bit_xor (get_or l.initial.registers b 0) (get_or l.words b 0)) ++ drop l.s l.initial.registers
