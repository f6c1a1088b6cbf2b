use borrow.Author.Rules.{rules}
use Rattle.outcomes.proofs.Answers.{answer-is}
use Rattle.clients.proofs.BurstClauses.{comes_out}
use Rattle.clients.proofs.bursts.p_comes_out.Goals as goal

pub returns : goal.returns
returns c =
    let burst = c.burst_receive in
    let came = comes_out _ (search rules) _ _ (search rules) burst.ensures.comes_out_as_sent in
    (answer-is burst.result burst.type_inv came.0, came.1)
