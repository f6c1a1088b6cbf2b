use Rattle.clients.proofs.AuditClauses.{told-half-P}
use Rattle.clients.proofs.audits.half_read_p_is_not_read.Goals as goal

pub returns : goal.returns
returns c = told-half-P c.audit.ensures
