-- The loop has taken the errors out of the registers that it passed.
use mathlib.Core.Path.{◌≡◌}
use Rattle.burst.specs.Registers.{written, taken_out}
use Rattle.burst.proofs.registers.Registers.take_out.Given as goal

abbrev pub invariant-loop-j : goal.invariant-loop-j
invariant-loop-j l =
    (l.self.coming ≡ l.initial.self.coming)
    × (l.self.syndromes ≡ written l.j (taken_out l.sums l.initial.self.syndromes l.errors) l.initial.self.syndromes)
