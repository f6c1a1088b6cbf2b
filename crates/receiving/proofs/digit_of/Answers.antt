use mathlib.Core.Path.{sym, ap, ◌∙◌}
use lib.Ieee.{of_bits, neg, div}
use Rattle.receiving.specs.Readings.{digit_of}
use Rattle.receiving.proofs.Levels.{at-least-quarter, at_most-minus_quarter, between, not-below-infinity, not-above-minus-infinity}
use Rattle.receiving.proofs.digit_of.Goals as goal
use Rattle.receiving.proofs.digit_of.Goals.{else-level-infinite-via-then-level-infinite+else-level-infinite-2, else-level-infinite-via-else-level-infinite}

pub returns-then-level : goal.returns-then-level
unfolding digit_of div of_bits neg
returns-then-level c =
    sym (ap digit_of c.in-Level.is ∙ at-least-quarter c.in-Level.level c.if-level-infinite.true c.if-level.true)

pub returns-then-level-2 : goal.returns-then-level-2
unfolding digit_of div of_bits neg
returns-then-level-2 c =
    sym (ap digit_of c.in-Level.is ∙ at_most-minus_quarter c.in-Level.level c.if-level-infinite-2.true c.if-level-2.true)

pub returns-then-level-infinite-2 : goal.returns-then-level-infinite-2
unfolding digit_of div of_bits neg
returns-then-level-infinite-2 c =
    sym (ap digit_of c.in-Level.is ∙ between c.in-Level.level c.if-level-infinite.true c.if-level-infinite-2.true c.if-level.false c.if-level-2.false)

pub returns-in-Erased : goal.returns-in-Erased
unfolding digit_of
returns-in-Erased c = sym (ap digit_of c.in-Erased.is)

pub returns-else-level-infinite : goal.returns-else-level-infinite
unfolding digit_of div of_bits neg
returns-else-level-infinite c =
    sym
    (ap digit_of c.in-Level.is
    ∙ elim c.else-level-infinite.branch [
      | else-level-infinite-via-then-level-infinite+else-level-infinite-2 w ↦ not-above-minus-infinity c.in-Level.level w.if-level-infinite-2.false
      | else-level-infinite-via-else-level-infinite w ↦ not-below-infinity c.in-Level.level w.if-level-infinite.false
    ])
