use mathlib.Core.Path.{◌∙◌}
use Rattle.outcomes.proofs.Answers.{outcome_is}
use Rattle.clients.proofs.WriterClauses.{refused-P}
use Rattle.clients.proofs.written.short_p_is_refused.Goals as goal

pub returns : goal.returns
returns c =
    let written = c.card_write in
    outcome_is written.result _ written.type_inv (written.ensures.output_after ∙ refused-P _)
