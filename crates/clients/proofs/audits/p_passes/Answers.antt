use Rattle.clients.proofs.AuditClauses.{passes-P}
use Rattle.clients.proofs.audits.p_passes.Goals as goal

pub returns : goal.returns
returns c = passes-P c.audit.ensures
