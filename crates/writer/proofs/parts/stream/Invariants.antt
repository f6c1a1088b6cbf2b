-- After J the checks passed.
use Rattle.card.specs.Layout.{layout_checks}
use Rattle.card.specs.Written.{p_of, checks_of}
use Rattle.outcomes.specs.Wrote.{Stored}
use Rattle.writer.proofs.parts.stream.Given as goal

abbrev pub invariant-loop-q : goal.invariant-loop-q
invariant-loop-q l = Stored l.initial.cursor l.cursor (layout_checks (checks_of l.card.checks l.i l.q (p_of l.card)))
