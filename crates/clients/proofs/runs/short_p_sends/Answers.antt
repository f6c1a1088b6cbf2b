use mathlib.Core.Path.{◌∙◌}
use Rattle.outcomes.proofs.Answers.{outcome_is}
use Rattle.clients.proofs.RunClauses.{short-sent}
use Rattle.clients.proofs.runs.short_p_sends.Goals as goal

pub returns : goal.returns
returns c =
    let run = c.session_send in
    outcome_is run.result _ run.type_inv (run.ensures ∙ short-sent _ _)
