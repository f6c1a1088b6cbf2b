-- What sending a burst comes to, for every input: document 01, "The code", "Readings and bursts" and "Orders".
-- Assumes nothing.
use Rattle.std.specs.Prelude.{ℕ, cond, List, length, ltb}
use Rattle.bits.specs.Digits.{any_beyond}
use Rattle.code.specs.Code.{most_frames, sent}
use Rattle.card.specs.Reading.{read_card}
use Rattle.code.specs.declared.Card.{Card}
use Rattle.outcomes.specs.Outcome.{BurstOutcome, refused_of, given_of, with_room, under_card}

-- under the card c: "15 by length (sent frames with tail), 13, 11"
unfoldable pub send_under : Card → List ℕ → List ℕ → BurstOutcome
send_under c input output =
    cond (ltb most_frames (length (sent c input))) (refused_of 15 output)
    (with_room (sent c input) output
    (cond (any_beyond c.k input) (refused_of 11 output)
    (given_of (sent c input) output)))

-- with the card's bytes
unfoldable pub send_of : List ℕ → List ℕ → List ℕ → BurstOutcome
send_of card input output = under_card (read_card card).outcome (send_under (read_card card).card input output) output
