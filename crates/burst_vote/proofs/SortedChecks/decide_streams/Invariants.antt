-- The loop has decided the errors of the streams that it passed.
use mathlib.Core.Path.{◌≡◌}
use Rattle.bits.specs.Digits.{from_digits}
use Rattle.burst_vote.proofs.Sorting.{error_sorted}
use Rattle.burst_vote.proofs.SortedChecks.decide_streams.Given as goal

abbrev pub invariant-loop-i : goal.invariant-loop-i
invariant-loop-i l = l.errors ≡ from_digits l.i (error_sorted l.counts l.self.alone l.self.several l.self.left l.word)
