-- The loop has taken in the frames that it passed.
use Rattle.burst.specs.Registers.{in_one}
use Rattle.burst.specs.Held.{Before}
use Rattle.burst.proofs.one_parity_receive.filled.Given as goal

abbrev pub invariant-loop-frame : goal.invariant-loop-frame
invariant-loop-frame l = Before l.card l.input l.frame-index (in_one l.card.m l.word)
