use Rattle.receiving.proofs.LevelRows.{level-rows}
use Rattle.clients.proofs.edges.levels_are_read.Goals as goal

pub returns : goal.returns
returns c = level-rows
