use Rattle.clients.proofs.RewritingClauses.{bytes-W}
use Rattle.clients.proofs.rewritings.default_is_left_out.Goals as goal

pub returns : goal.returns
returns c = bytes-W c.rewrite.ensures
