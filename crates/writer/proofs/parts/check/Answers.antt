-- The map and the masks.
use Rattle.outcomes.proofs.Writing.{stored-both, stored-as}
use Rattle.writer.proofs.Laying.{check-parts}
use Rattle.writer.proofs.parts.check.Goals as goal

pub returns : goal.returns
returns c = stored-as (check-parts c.args.masks.now c.map.ensures.0) (stored-both c.put.ensures c.masks.ensures)
