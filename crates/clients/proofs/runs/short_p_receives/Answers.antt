use mathlib.Core.Path.{◌∙◌}
use Rattle.outcomes.proofs.Answers.{outcome_is}
use Rattle.clients.proofs.RunClauses.{short-received}
use Rattle.clients.proofs.runs.short_p_receives.Goals as goal

pub returns : goal.returns
returns c =
    let run = c.session_receive in
    outcome_is run.result _ run.type_inv (run.ensures ∙ short-received _ _)
