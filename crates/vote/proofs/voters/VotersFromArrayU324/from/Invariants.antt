-- The loop has counted the words that it passed.
use mathlib.Core.Path.{◌≡◌}
use mathlib.Core.List.{◌++◌}
use lib.Count.{ones}
use lib.ListN.{get_or, drop, replicate}
use Rattle.bits.specs.Sums.{up_to}
use Rattle.vote.proofs.voters.VotersFromArrayU324.from.Given as goal

abbrev pub invariant-loop-i : goal.invariant-loop-i
invariant-loop-i l = l.count-items ≡ up_to l.i (λ b. ones (get_or l.words b 0)) ++ drop l.i (replicate 4 0)
