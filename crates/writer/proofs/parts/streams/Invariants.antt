-- The streams passed.
use Rattle.card.specs.Layout.{layout_streams}
use Rattle.card.specs.Written.{p_of, streams_of}
use Rattle.outcomes.specs.Wrote.{Stored}
use Rattle.writer.proofs.parts.streams.Given as goal

abbrev pub invariant-loop-i : goal.invariant-loop-i
invariant-loop-i l = Stored l.initial.cursor l.cursor (layout_streams (streams_of l.card.counts l.card.checks l.i (p_of l.card)))
