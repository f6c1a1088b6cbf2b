use mathlib.Core.Path.{◌≡◌}
use lib.ListN.{length}
use Rattle.burst.specs.Registers.{HasPuts}
use Rattle.burst.proofs.one_parity_receive.puts.Given as goal

abbrev pub invariant-loop-frame : goal.invariant-loop-frame
invariant-loop-frame l = (length l.all ≡ 32) × HasPuts l.sums l.k l.m l.frame l.all
