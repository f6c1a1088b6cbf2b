use Rattle.terms.proofs.Passes.{passes}
use Rattle.terms.proofs.cards.pass.Goals as goal

pub returns : goal.returns
returns c = passes c.pass.ensures
