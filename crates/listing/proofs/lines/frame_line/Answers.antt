use Rattle.outcomes.specs.Text.{text}
use Rattle.outcomes.proofs.Writing.{stored-both, stored-as}
use Rattle.listing.proofs.LineParts.{frame-line}
use Rattle.listing.proofs.lines.frame_line.Goals as goal

pub returns : goal.returns
unfolding text
returns c = stored-as (frame-line _ _ _) (stored-both (stored-both c.number.ensures c.stream_digits.ensures) c.put.ensures)
