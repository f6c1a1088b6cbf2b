-- The loop has sorted the checks of the streams that it passed.
use mathlib.Core.Path.{◌≡◌}
use lib.ListN.{length}
use Rattle.burst_vote.specs.Sorted.{several_words, Sorted}
use Rattle.burst_vote.proofs.sorted.Given as goal

abbrev pub invariant-loop-i : goal.invariant-loop-i
invariant-loop-i l = (length l.alone ≡ 4) × (length l.several ≡ several_words) × (length l.left ≡ 4) × Sorted l.counts l.checks l.i l.alone l.several l.left
