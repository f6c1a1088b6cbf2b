use borrow.Author.Rules.{rules}
use Rattle.outcomes.proofs.Answers.{outcome_is}
use Rattle.clients.proofs.WriterClauses.{comes_back-P}
use Rattle.clients.proofs.written.p_comes_back.Goals as goal

pub returns : goal.returns
returns c =
    let written = c.card_write in
    outcome_is written.result _ written.type_inv (comes_back-P _ (search rules) written.ensures.carries_on)
