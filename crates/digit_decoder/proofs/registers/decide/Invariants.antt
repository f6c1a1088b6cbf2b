-- The loop has put the digits that it decided at their places.
use mathlib.Core.Path.{◌≡◌}
use Rattle.bits.specs.Digits.{from_digits}
use Rattle.digit_decoder.specs.Held.{decide_digit_by}
use Rattle.digit_decoder.proofs.registers.decide.Given as goal

abbrev pub invariant-loop-i : goal.invariant-loop-i
invariant-loop-i l =
    l.frame ≡ from_digits l.i (decide_digit_by l.generators l.checks l.voters l.received l.all l.p)
