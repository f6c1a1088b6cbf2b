use Rattle.majority.proofs.Figures.{figure-rows}
use Rattle.clients.proofs.edges.figure_counts_every_syndrome.Goals as goal

pub returns : goal.returns
returns c = figure-rows
