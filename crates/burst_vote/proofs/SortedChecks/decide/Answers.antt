use mathlib.Core.Path.{sym, ap, ◌∙◌}
use Rattle.burst_vote.specs.Sorted.{decide_sorted}
use Rattle.burst_vote.proofs.Sorting.{alone-decides}
use Rattle.burst_vote.proofs.SortedChecks.decide.Goals as goal

pub returns-then-self-eq0 : goal.returns-then-self-eq0
returns-then-self-eq0 c =
    let a = c.args in
    let s = a.self.now in
    alone-decides a.counts.now s.alone s.several s.left a.word c.if-self-eq0.true c.count_of.ensures c.ones_in.ensures c.more_than_half.ensures c.from.ensures
    ∙ ap (decide_sorted a.counts.now s.alone s.several s.left a.word) (sym c.if-k-eq1.true)
