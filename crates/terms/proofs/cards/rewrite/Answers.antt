use Rattle.terms.proofs.Rewriting.{is-rewritten}
use Rattle.terms.proofs.cards.rewrite.Goals as goal

pub returns : goal.returns
returns c = is-rewritten c.rewrite.ensures
