use mathlib.Core.Path.{◌∙◌}
use borrow.Author.Rules.{rules}
use Rattle.outcomes.proofs.Answers.{outcome_is}
use Rattle.clients.proofs.BurstClauses.{sends}
use Rattle.clients.proofs.bursts.p_sends.Goals as goal

pub returns : goal.returns
returns c =
    let burst = c.burst_send in
    outcome_is burst.result _ burst.type_inv (burst.ensures ∙ sends _ (search rules))
