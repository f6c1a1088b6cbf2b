use Rattle.clients.proofs.AuditClauses.{told-stored-P}
use Rattle.clients.proofs.audits.stored_p_is_told.Goals as goal

pub returns : goal.returns
returns c = told-stored-P c.audit.ensures
