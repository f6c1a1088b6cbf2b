-- The loop has sorted the checks that it passed.
use Rattle.burst_vote.specs.Sorted.{SortedStream}
use Rattle.burst_vote.proofs.sorted_stream.Given as goal

abbrev pub invariant-loop-q : goal.invariant-loop-q
invariant-loop-q l = SortedStream l.checks l.i l.q l.initial.several l.several l.alone l.left
