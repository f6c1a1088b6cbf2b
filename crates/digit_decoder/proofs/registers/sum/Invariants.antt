-- The loop has added up the shares of the information streams that it passed.
use mathlib.Core.Path.{◌≡◌}
use lib.ListN.{get_or}
use Rattle.bits.specs.Sums.{xor_below}
use Rattle.code.specs.Registers.{generator_mask}
use Rattle.digit_decoder.specs.Held.{share_by}
use Rattle.digit_decoder.proofs.registers.sum.Given as goal

abbrev pub invariant-loop-s : goal.invariant-loop-s
invariant-loop-s l =
    l.sum ≡ xor_below l.s (λ b. share_by (generator_mask l.generators b l.j) (get_or l.received b 0) (get_or l.decided b 0))
