use Rattle.majority.proofs.Figures.{figure-fresh, figure-without-memory}
use Rattle.clients.proofs.edges.figure_is_zero.Goals as goal

pub returns : goal.returns
returns c = (figure-fresh, figure-without-memory)
