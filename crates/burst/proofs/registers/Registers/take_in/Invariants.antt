-- The loop has taken the frame into the registers of the parity streams that it passed.
use Rattle.burst.proofs.TakingIn.{TakingIn}
use Rattle.burst.proofs.registers.Registers.take_in.Given as goal

abbrev pub invariant-loop-j : goal.invariant-loop-j
invariant-loop-j l = TakingIn l.sums l.k l.m l.frame l.initial.self l.self l.held l.j
