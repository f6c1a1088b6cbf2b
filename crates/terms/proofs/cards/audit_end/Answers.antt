use Rattle.terms.proofs.Auditing.{ends}
use Rattle.terms.proofs.cards.audit_end.Goals as goal

pub returns : goal.returns
returns c = ends c.args.passed c.end.ensures
