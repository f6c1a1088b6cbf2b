-- The loop has handed out the frames m before those that it passed, and none of these brought a syndrome of 1.
use Prim.Native.Nat.{ℕ}
use mathlib.Core.Path.{◌≡◌}
use mathlib.Core.List.{List}
use lib.ListN.{length}
use Rattle.code.specs.declared.Card.{Card}
use Rattle.burst.specs.Registers.{in_one}
use Rattle.burst.specs.Held.{OneParity, Handing}
use Rattle.burst.proofs.one_parity_receive.hand_through.Given as goal

abbrev pub invariant-loop-u : goal.invariant-loop-u
invariant-loop-u l =
    (c : Card) (output₀ : List ℕ) → OneParity c l.puts → l.k ≡ c.k → l.m ≡ c.m → length output₀ ≡ length l.initial.output
    → Handing c l.input output₀ l.from (in_one c.m l.before) l.initial.output → Handing c l.input output₀ l.u (in_one c.m l.word) l.output
