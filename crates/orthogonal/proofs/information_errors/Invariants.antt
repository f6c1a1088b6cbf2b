-- The loop's sum has, at each offset, the parity of the pairs of the parity streams that it passed.
use Prim.Native.Nat.{ℕ, ◌+◌, ◌*◌, ◌%◌, ◌<◌}
use mathlib.Core.Path.{◌≡◌}
use lib.ListN.{get_or}
use Rattle.bits.specs.Sums.{sum_below, back}
use Rattle.bits.specs.Digits.{bit}
use Rattle.orthogonal.proofs.information_errors.Given as goal

abbrev pub invariant-loop-j : goal.invariant-loop-j
invariant-loop-j l =
    (b : ℕ) → b < 32 → bit l.sum b ≡ sum_below l.j (λ j. sum_below 32 (λ a. bit (get_or l.masks j 0) a * back (bit (get_or l.generators (l.s * 8 + j) 0)) a b)) % 2
