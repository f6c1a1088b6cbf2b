use native.Mathlib.Omega.{arith}
use Rattle.outcomes.specs.Listing.{frame_lines}
use Rattle.outcomes.proofs.Writing.{stored-nothing, stored-both, stored-as}
use Rattle.listing.proofs.LineParts.{frames-next}
use Rattle.listing.proofs.lines.frame_lines.Goals as goal

pub loop-time-init : goal.loop-time-init
unfolding frame_lines
loop-time-init c = stored-nothing _ (omega arith)

pub loop-time-preserved : goal.loop-time-preserved
loop-time-preserved c = stored-as (frames-next c.args.k c.loop-time.time c.args.frames.now (omega arith)) (stored-both c.loop-time.invariant c.frame_line.ensures)
