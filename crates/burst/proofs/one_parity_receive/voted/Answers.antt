use mathlib.Core.Path.{sym, ◌∙◌}
use native.Mathlib.Omega.{arith}
use Rattle.burst_vote.proofs.Sorting.{sorted-decides}
use Rattle.burst.proofs.OneParityReceiving.{few-held}
use Rattle.burst.proofs.one_parity_receive.voted.Goals as goal

pub returns-then-held-checks : goal.returns-then-held-checks
returns-then-held-checks c =
    let r = c.requires in
    let least = c.in-Some.is in
    sym (few-held _ r.guaranteed r.one c.args.held c.in-Some.checks (omega arith) (rw least at r.at_least) (omega arith))

pub returns : goal.returns
returns c = c.decide.ensures ∙ sorted-decides _ _ _ _ _ _ _ c.requires.sorted
