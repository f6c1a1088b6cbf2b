-- The loop has sent the frames that it passed.
use Prim.Native.Nat.{ℕ}
use mathlib.Core.Path.{◌≡◌}
use mathlib.Core.List.{List}
use lib.ListN.{length}
use Rattle.code.specs.Guarantees.{Guarantees}
use Rattle.code.specs.declared.Card.{Card}
use Rattle.burst.specs.Sent.{SentUpTo}
use Rattle.burst.proofs.sender.send_tail.Given as goal

abbrev pub invariant-loop-at : goal.invariant-loop-at
invariant-loop-at g l =
    (c : Card) (input output₀ : List ℕ) → Guarantees c → l.sent ≡ length input → g.S.Sender.Ready c input l.sent l.fn.first → SentUpTo c input output₀ l.sent l.initial.output
    → g.S.Sender.Ready c input l.at l.sender × SentUpTo c input output₀ l.at l.output
