-- The loop has filled the sums of the parity streams that it passed.
use mathlib.Core.Path.{◌≡◌}
use mathlib.Core.List.{◌++◌}
use lib.ListN.{drop, replicate}
use Rattle.bits.specs.Sums.{up_to}
use Rattle.digit_decoder.specs.Held.{sum_by}
use Rattle.digit_decoder.proofs.registers.sums.Given as goal

abbrev pub invariant-loop-j : goal.invariant-loop-j
invariant-loop-j l = l.next ≡ up_to l.j (sum_by l.generators l.received l.decided l.k) ++ drop l.j (replicate 8 0)
