use mathlib.Core.Path.{◌∙◌}
use borrow.Author.Rules.{rules}
use Rattle.outcomes.proofs.Answers.{outcome_is}
use Rattle.clients.proofs.BurstClauses.{finds-no_room}
use Rattle.clients.proofs.bursts.p_finds_no_room.Goals as goal

pub returns : goal.returns
returns c =
    let burst = c.burst_receive in
    outcome_is burst.result _ burst.type_inv (burst.ensures.output_after ∙ finds-no_room _ (search rules))
