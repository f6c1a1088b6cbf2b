-- The lines of the frames passed were stored.
use lib.ListN.{take}
use Rattle.outcomes.specs.Listing.{frame_lines}
use Rattle.outcomes.specs.Wrote.{Stored}
use Rattle.listing.proofs.lines.frame_lines.Given as goal

abbrev pub invariant-loop-time : goal.invariant-loop-time
invariant-loop-time l = Stored l.initial.cursor l.cursor (frame_lines l.k 0 (take l.time l.frames))
