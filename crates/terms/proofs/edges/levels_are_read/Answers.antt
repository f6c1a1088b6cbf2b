use Rattle.terms.proofs.BandRows.{band-rows}
use Rattle.terms.proofs.edges.levels_are_read.Goals as goal

pub returns : goal.returns
returns c = band-rows
