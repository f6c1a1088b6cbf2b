-- The digits of the streams passed were stored.
use mathlib.Core.List.{map}
use Rattle.bits.specs.Sums.{up_to}
use Rattle.bits.specs.Digits.{bit}
use Rattle.outcomes.specs.Text.{decimal, spaced}
use Rattle.outcomes.specs.Wrote.{Stored}
use Rattle.listing.proofs.lines.stream_digits.Given as goal

abbrev pub invariant-loop-i : goal.invariant-loop-i
invariant-loop-i l = Stored l.initial.cursor l.cursor (spaced (map decimal (up_to l.i (bit l.frame))))
