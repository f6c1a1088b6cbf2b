use Rattle.outcomes.specs.Text.{text}
use Rattle.outcomes.proofs.Writing.{stored-both, stored-as}
use Rattle.listing.proofs.LineParts.{end_line}
use Rattle.listing.proofs.lines.end_line.Goals as goal

pub returns : goal.returns
unfolding text
returns c = stored-as (end_line _) (stored-both c.numbered.ensures c.put.ensures)
