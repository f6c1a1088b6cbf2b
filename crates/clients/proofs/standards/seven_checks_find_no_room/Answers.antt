use mathlib.Core.Path.{◌∙◌}
use borrow.Author.Rules.{rules}
use Rattle.outcomes.proofs.Answers.{outcome_is}
use Rattle.clients.proofs.StandardClauses.{no_room-seven}
use Rattle.clients.proofs.standards.seven_checks_find_no_room.Goals as goal

pub returns : goal.returns
returns c =
    let written = c.standard_card in
    outcome_is written.result _ written.type_inv written.ensures.output_after ∙ no_room-seven written.ensures.standard_cards _ (search rules)
