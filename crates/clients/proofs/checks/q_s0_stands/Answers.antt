use Rattle.clients.proofs.CheckClauses.{s0-stands}
use Rattle.clients.proofs.checks.q_s0_stands.Goals as goal

pub returns : goal.returns
returns c = s0-stands c.after.ensures
