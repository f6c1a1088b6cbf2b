use Rattle.outcomes.proofs.Answers.{outcome_is}
use Rattle.terms.proofs.Sending.{burst-sent}
use Rattle.terms.proofs.bursts.send.Goals as goal

pub returns : goal.returns
returns c =
    let burst = c.burst_send in
    burst-sent _ _ _ (outcome_is burst.result _ burst.type_inv burst.ensures)
