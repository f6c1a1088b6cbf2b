use Rattle.standard.proofs.Terms.{edges}
use Rattle.clients.proofs.edges.terms_are_taken.Goals as goal

pub returns : goal.returns
returns c = edges
