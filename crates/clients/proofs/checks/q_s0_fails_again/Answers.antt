use Rattle.clients.proofs.CheckClauses.{s0-fails-again}
use Rattle.clients.proofs.checks.q_s0_fails_again.Goals as goal

pub returns : goal.returns
returns c = s0-fails-again c.after.ensures
