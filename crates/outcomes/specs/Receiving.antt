-- What receiving a burst comes to, for every input: document 01, "Checks", "Readings and bursts" and "Orders".
-- Assumes nothing.
use Rattle.std.specs.Prelude.{ℕ, ◌+◌, cond, List, length, ltb}
use Rattle.bits.specs.Digits.{any_beyond}
use Rattle.card.specs.Reading.{read_card}
use Rattle.code.specs.Code.{most_frames}
use Rattle.code.specs.declared.Card.{Card}
use Rattle.majority.specs.Plain.{decoded}
use Rattle.outcomes.specs.Outcome.{BurstOutcome, refused_of, given_of, with_room, under_card}

-- under the card c: "15 by length .., 13, 11"; "the first m frames give 'waiting'; each later one gives the frame m before it"
unfoldable pub receive_under : Card → List ℕ → List ℕ → BurstOutcome
receive_under c input output =
    cond (ltb most_frames (length input)) (refused_of 15 output)
    (with_room (decoded c input) output
    (cond (any_beyond (c.k + c.p) input) (refused_of 11 output)
    (given_of (decoded c input) output)))

-- with the card's bytes
unfoldable pub receive_of : List ℕ → List ℕ → List ℕ → BurstOutcome
receive_of card input output = under_card (read_card card).outcome (receive_under (read_card card).card input output) output
