-- What the loop keeps (`Passing`).
use Rattle.orthogonal.specs.Pass.{information_streams, parity_streams}
use Rattle.orthogonal.proofs.Passing.{Worked}
use Rattle.orthogonal.proofs.pass.Given as goal

abbrev pub invariant-loop-s : goal.invariant-loop-s
invariant-loop-s l = Worked l.generators l.masks l.touched (information_streams l.k) (parity_streams l.k l.p) l.i l.errors l.again l.s
