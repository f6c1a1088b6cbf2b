use Prim.Native.Nat.{◌<◌}
use Rattle.audit.proofs.main.Given as goal

abbrev pub invariant-loop-i : goal.invariant-loop-i
invariant-loop-i l = l.passed < l.i
