use Rattle.majority.proofs.Edges as stream
use Rattle.majority.proofs.LargerEdges as larger
use Rattle.outcomes.proofs.Edges as burst
use Rattle.outcomes.proofs.Admissions.{admissions}
use Rattle.clients.proofs.edges.conditions_are_met.Goals as goal

pub returns : goal.returns
returns c = record { edges = (stream.edges, stream.erased-edges, burst.edges, admissions); larger_edges = (larger.larger-edges, larger.larger-erased-edges, burst.larger-edges) }
