use mathlib.Core.Path.{◌∙◌}
use borrow.Author.Rules.{rules}
use Rattle.outcomes.proofs.Answers.{outcome_is}
use Rattle.clients.proofs.BurstClauses.{receives}
use Rattle.clients.proofs.bursts.p_receives.Goals as goal

pub returns : goal.returns
returns c =
    let burst = c.burst_receive in
    outcome_is burst.result _ burst.type_inv (burst.ensures.output_after ∙ receives _ (search rules))
