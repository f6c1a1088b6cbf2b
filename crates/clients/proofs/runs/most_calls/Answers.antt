use Rattle.clients.proofs.RunClauses.{most-calls}
use Rattle.clients.proofs.runs.most_calls.Goals as goal

pub returns : goal.returns
returns c = most-calls
