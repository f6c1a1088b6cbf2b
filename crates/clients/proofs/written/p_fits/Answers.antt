use mathlib.Core.Path.{ap}
use borrow.Author.Rules.{rules}
use Rattle.outcomes.specs.Outcome.{BurstOutcome}
use Rattle.outcomes.proofs.Answers.{answer-is}
use Rattle.clients.proofs.WriterClauses.{comes_back-P}
use Rattle.clients.proofs.written.p_fits.Goals as goal

pub returns : goal.returns
returns c =
    let written = c.card_write in
    answer-is written.result written.type_inv (ap (λ (b : BurstOutcome). b.answer) (comes_back-P _ (search rules) written.ensures.carries_on))
