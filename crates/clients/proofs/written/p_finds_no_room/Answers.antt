use mathlib.Core.Path.{◌∙◌}
use borrow.Author.Rules.{rules}
use Rattle.outcomes.proofs.Answers.{outcome_is}
use Rattle.clients.proofs.WriterClauses.{no_room-P}
use Rattle.clients.proofs.written.p_finds_no_room.Goals as goal

pub returns : goal.returns
returns c =
    let written = c.card_write in
    outcome_is written.result _ written.type_inv (written.ensures.output_after ∙ no_room-P _ (search rules))
