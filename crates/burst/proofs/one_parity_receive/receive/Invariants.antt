-- The loop has handed out the frames before the one that is next.
use Prim.Native.Nat.{◌-◌, ◌≤◌}
use mathlib.Core.Path.{◌≡◌}
use lib.ListN.{length}
use Rattle.burst.specs.Held.{Through}
use Rattle.burst.proofs.one_parity_receive.receive.Given as goal

abbrev pub invariant-loop-reached : goal.invariant-loop-reached
invariant-loop-reached l =
    (l.reached.u ≤ length l.input - l.card.m) × (length l.output ≡ length l.fn.output)
    × Through l.card l.puts l.input l.fn.output l.reached.word l.reached.u l.output

abbrev pub decreases-loop-reached : goal.decreases-loop-reached
decreases-loop-reached l = length l.input - l.card.m - l.reached.u
