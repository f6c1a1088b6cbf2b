-- The loop has the checks of the streams that it passed.
use Prim.Native.Nat.{◌-◌, ◌^◌, min}
use mathlib.Core.Path.{◌≡◌}
use mathlib.Core.List.{◌++◌}
use lib.ListN.{get_or, drop, replicate}
use Rattle.bits.specs.Sums.{up_to}
use Rattle.code.specs.Limits.{most_checks}
use Rattle.vote.proofs.voters.all_checks.Given as goal

abbrev pub invariant-loop-i : goal.invariant-loop-i
invariant-loop-i l = l.words ≡ up_to l.i (λ b. 2 ^ min (get_or l.counts b 0) most_checks - 1) ++ drop l.i (replicate 4 0)
