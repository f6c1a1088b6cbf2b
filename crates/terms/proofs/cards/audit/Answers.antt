use Rattle.terms.proofs.Auditing.{is-audited}
use Rattle.terms.proofs.cards.audit.Goals as goal

pub returns : goal.returns
returns c = is-audited c.audit.ensures
