use mathlib.Core.Path.{◌∙◌}
use borrow.Author.Rules.{rules}
use Rattle.outcomes.proofs.Answers.{outcome_is}
use Rattle.clients.proofs.RunClauses.{sends}
use Rattle.clients.proofs.runs.p_sends.Goals as goal

pub returns : goal.returns
returns c =
    let run = c.session_send in
    outcome_is run.result _ run.type_inv (run.ensures ∙ sends _ (search rules))
