-- The bytes passed stand from the place on.
use lib.ListN.{take}
use Rattle.outcomes.specs.Wrote.{Stored}
use Rattle.outcomes.proofs.cursor.Cursor.put_all.Given as goal

abbrev pub invariant-loop-byte : goal.invariant-loop-byte
invariant-loop-byte l = Stored l.initial.self l.self (take l.byte-index l.bytes)
