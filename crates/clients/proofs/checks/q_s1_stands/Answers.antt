use Rattle.clients.proofs.CheckClauses.{s1-stands}
use Rattle.clients.proofs.checks.q_s1_stands.Goals as goal

pub returns : goal.returns
returns c = s1-stands c.after.ensures
