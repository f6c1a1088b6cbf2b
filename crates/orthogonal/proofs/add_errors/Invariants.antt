-- The errors of the streams that the loop passed are added.
use mathlib.Core.Path.{◌≡◌}
use mathlib.Core.List.{◌++◌}
use lib.ListN.{get_or, drop}
use lib.Bits.{bit_or}
use Rattle.bits.specs.Sums.{up_to}
use Rattle.orthogonal.proofs.add_errors.Given as goal

abbrev pub invariant-loop-s : goal.invariant-loop-s
invariant-loop-s l = l.touched ≡ up_to l.s (λ q. bit_or (get_or l.initial.touched q 0) (get_or l.errors q 0)) ++ drop l.s l.initial.touched
