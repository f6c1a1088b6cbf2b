-- The loop has taken in the frames that it passed.
use Rattle.burst.specs.Registers.{NoneFrom}
use Rattle.burst.specs.Held.{Before}
use Rattle.burst.proofs.parities.filled.Given as goal

abbrev pub invariant-loop-frame : goal.invariant-loop-frame
invariant-loop-frame l = Before l.card l.input l.frame-index l.registers × NoneFrom l.card.p l.registers.syndromes
