use mathlib.Core.Path.{◌∙◌}
use borrow.Author.Rules.{rules}
use Rattle.outcomes.proofs.Answers.{outcome_is}
use Rattle.clients.proofs.RunClauses.{receives-on}
use Rattle.clients.proofs.runs.p_receives_on.Goals as goal

pub returns : goal.returns
returns c =
    let run = c.session_receive in
    outcome_is run.result _ run.type_inv (run.ensures ∙ receives-on _ (search rules))
