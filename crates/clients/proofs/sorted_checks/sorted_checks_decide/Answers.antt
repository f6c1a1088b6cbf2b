use Rattle.burst_vote.proofs.Sorting.{sorted-decides}
use Rattle.clients.proofs.sorted_checks.sorted_checks_decide.Goals as goal

pub returns : goal.returns
returns c =
    let a = c.args in
    rw c.decide.ensures (sorted-decides a.counts.now a.checks.now _ _ _ a.word a.k c.sorted.ensures)
