use Rattle.encoder.proofs.Edges as sender
use Rattle.receiving.proofs.Admissions as receiver
use Rattle.clients.proofs.edges.calls_are_admitted.Goals as goal

pub returns : goal.returns
returns c = (sender.edges, receiver.admissions)
