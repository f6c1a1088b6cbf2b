use Rattle.clients.proofs.AuditClauses.{read_whole}
use borrow.Author.Rules.{rules}
use Rattle.clients.proofs.audits.longest_is_read.Goals as goal

pub returns : goal.returns
returns c = read_whole c.audit.ensures (search rules)
