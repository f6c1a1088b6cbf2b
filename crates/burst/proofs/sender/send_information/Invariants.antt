-- The loop has sent the frames that it passed.
use Rattle.code.specs.Guarantees.{Guarantees}
use Rattle.code.specs.declared.Card.{Card}
use Rattle.burst.specs.Sent.{SentUpTo}
use Rattle.burst.proofs.sender.send_information.Given as goal

abbrev pub invariant-loop-at : goal.invariant-loop-at
invariant-loop-at g l =
    (c : Card) → Guarantees c → g.S.Sender.Ready c l.input 0 l.fn.first
    → g.S.Sender.Ready c l.input l.at l.sender × SentUpTo c l.input l.initial.output l.at l.output
