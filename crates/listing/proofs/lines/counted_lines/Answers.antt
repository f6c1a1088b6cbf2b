use Rattle.outcomes.proofs.Writing.{stored-both}
use Rattle.listing.proofs.lines.counted_lines.Goals as goal

pub returns : goal.returns
returns c = stored-both c.frame_lines.ensures c.end_line.ensures
