use mathlib.Core.Path.{ap}
use borrow.Author.Rules.{rules}
use Rattle.outcomes.specs.Outcome.{BurstOutcome}
use Rattle.writer.proofs.Carrying.{carried-on-P}
use Rattle.clients.proofs.WriterClauses.{comes_back-P}
use Rattle.clients.proofs.written.p_is_carried_on.Goals as goal

pub returns : goal.returns
returns c =
    let written = c.card_write in
    carried-on-P written.ensures.carries_on (ap (λ (b : BurstOutcome). b.answer) (comes_back-P _ (search rules) written.ensures.carries_on))
