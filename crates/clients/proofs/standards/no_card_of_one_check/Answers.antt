use mathlib.Core.Path.{◌∙◌}
use Rattle.outcomes.proofs.Answers.{outcome_is}
use Rattle.clients.proofs.StandardClauses.{none_of-one}
use Rattle.clients.proofs.standards.no_card_of_one_check.Goals as goal

pub returns : goal.returns
returns c =
    let written = c.standard_card in
    outcome_is written.result _ written.type_inv written.ensures.output_after ∙ none_of-one _
