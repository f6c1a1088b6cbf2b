-- The loop has worked out the changes of the parity streams that it passed.
use mathlib.Core.Path.{◌≡◌}
use mathlib.Core.List.{◌++◌}
use lib.ListN.{drop, replicate}
use Rattle.bits.specs.Sums.{up_to}
use Rattle.code.specs.Registers.{generator_sum}
use Rattle.code.proofs.feedback.Given as goal

abbrev pub invariant-loop-j : goal.invariant-loop-j
invariant-loop-j l = l.changes ≡ up_to l.j (generator_sum l.generators l.k l.errors) ++ drop l.j (replicate 8 0)
