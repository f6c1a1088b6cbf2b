-- The loop's sum has, in its ones, the parity of the streams that it passed.
use Prim.Native.Nat.{◌+◌, ◌%◌}
use mathlib.Core.Path.{◌≡◌}
use lib.ListN.{get_or}
use lib.Count.{ones}
use Rattle.bits.specs.Sums.{sum_below}
use Rattle.bits.specs.Digits.{dot}
use Rattle.vote.proofs.check.Given as goal

abbrev pub invariant-loop-j : goal.invariant-loop-j
invariant-loop-j l = ones l.sum % 2 ≡ sum_below l.j (λ b. dot (get_or l.checks (l.at + b) 0) (get_or l.words b 0)) % 2
