-- What writing a card comes to, for every card and output: document 02, R-1 ("The answer is the count of bytes, only that many are written, and
-- output too short is 13, as in a burst").
-- Assumes nothing.
use Rattle.std.specs.Prelude.{ℕ, List}
use Rattle.code.specs.declared.Card.{Card}
use Rattle.card.specs.Reading.{read_card}
use Rattle.outcomes.specs.Outcome.{BurstOutcome, fitted, under_card}
use Rattle.card.specs.Written.{written}

-- the card c
unfoldable pub write_under : Card → List ℕ → BurstOutcome
write_under c output = fitted (written c) output

-- the card that the bytes state: "the card's refusals, then 13, else the count"
unfoldable pub write_of : List ℕ → List ℕ → BurstOutcome
write_of card output = under_card (read_card card).outcome (write_under (read_card card).card output) output
