-- The loop has counted the checks that it passed.
use Prim.Native.Nat.{◌+◌, ◌≤◌}
use mathlib.Core.Path.{◌≡◌}
use lib.ListN.{get_or}
use Rattle.bits.specs.Digits.{dot}
use Rattle.burst_vote.specs.Sorted.{several_start, parities}
use Rattle.burst_vote.proofs.SortedChecks.votes.Given as goal

abbrev pub invariant-loop-r : goal.invariant-loop-r
invariant-loop-r l =
    (l.ones ≤ 32 + l.r) × (l.ones ≡ dot (get_or l.self.alone l.i 0) l.word + parities l.self.several (several_start l.i) l.r l.word)
