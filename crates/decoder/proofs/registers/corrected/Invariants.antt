-- The loop has put the digits of the streams that it passed at their places.
use Prim.Native.Nat.{◌^◌, ◌<◌}
use mathlib.Core.Path.{◌≡◌}
use Rattle.bits.specs.Digits.{from_digits}
use Rattle.decoder.specs.Held.{corrected_digit}
use Rattle.decoder.proofs.registers.corrected.Given as goal

abbrev pub invariant-loop-i : goal.invariant-loop-i
invariant-loop-i l =
    (l.frame < 2 ^ l.i) × (l.frame ≡ from_digits l.i (corrected_digit l.history l.errors l.m))
