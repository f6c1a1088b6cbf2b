use Rattle.clients.proofs.CheckClauses.{s2-fails}
use Rattle.clients.proofs.checks.q_s2_fails.Goals as goal

pub returns : goal.returns
returns c = s2-fails c.after.ensures
