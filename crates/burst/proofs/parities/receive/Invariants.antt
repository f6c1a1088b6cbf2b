-- The loop has handed out the frames that it passed.
use Rattle.burst.specs.Registers.{NoneFrom}
use Rattle.burst.specs.Held.{Handing}
use Rattle.burst.proofs.parities.receive.Given as goal

abbrev pub invariant-loop-u : goal.invariant-loop-u
invariant-loop-u l = Handing l.card l.input l.initial.output l.u l.registers l.output × NoneFrom l.card.p l.registers.syndromes
