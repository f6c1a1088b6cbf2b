use Rattle.clients.proofs.AuditClauses.{told-long, front-enough}
use borrow.Author.Rules.{rules}
use Rattle.clients.proofs.audits.longer_is_too_long.Goals as goal

pub returns : goal.returns
returns c = let promise = c.audit.ensures in record { line_is = told-long promise (search rules); by_the_front = front-enough promise (search rules) }
