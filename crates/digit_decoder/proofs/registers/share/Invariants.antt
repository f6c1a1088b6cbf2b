-- The loop has added up what the terms of the generator that it passed add.
use mathlib.Core.Path.{◌≡◌}
use Rattle.bits.specs.Sums.{xor_below}
use Rattle.digit_decoder.proofs.Loops.{share_of}
use Rattle.digit_decoder.proofs.registers.share.Given as goal

abbrev pub invariant-loop-l : goal.invariant-loop-l
invariant-loop-l l = l.sum ≡ xor_below l.l (share_of l.generator l.received l.decided)
