-- The loop has put the digits and marks of the readings that it passed at their places, and met no refusal.
use Rattle.receiving.proofs.Read.{Read}
use Rattle.receiving.proofs.read_frame.Given as goal

abbrev pub invariant-loop-s : goal.invariant-loop-s
invariant-loop-s l = Read l.fn.readings l.s l.digits l.erased
