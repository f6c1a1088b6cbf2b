-- So many calls answer no more than so many times.
use Prim.Native.Nat.{◌≤◌}
use Rattle.bench.proofs.lines.Tally.of.Given as goal

abbrev pub invariant-loop : goal.invariant-loop
invariant-loop g l =
    goal.F-IsAlwaysCallable g l.call × (l.tally.waiting ≤ l.counter) × (l.tally.frames ≤ l.counter)
