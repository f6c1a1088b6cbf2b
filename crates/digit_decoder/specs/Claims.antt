-- What holds of any list of receiving calls, refused ones included, on a session freshly opened with the card c: what holds of every receiving session,
-- with the second rule (`majority`, `SecondCircuit`), and that it answers as the first circuit's session does. Document 02, R-2.
-- Assumes nothing.
use Rattle.std.specs.Prelude.{◌≡◌, List}
use Rattle.code.specs.declared.Card.{Card}
use Rattle.majority.specs.AsSent.{Correctable}
use Rattle.majority.specs.SecondCircuit.{decoded_by_digits}
use Rattle.receiving.specs.Calls.{Call, answers}
use Rattle.receiving.specs.Claims.{ByRule}
use Rattle.receiving.specs.Receive.{open_of}
use Rattle.decoder.specs.Receive.{first_circuit}
use Rattle.receiving.specs.declared.Session.{Session}
use Rattle.digit_decoder.specs.Receive.{second_circuit}
use Rattle.digit_decoder.specs.declared.Held.{Held}

pub record Claims (c : Card) (s : Session Held) : Type 0 where
  -- the second rule and the third term
  pub by_rule : ByRule second_circuit decoded_by_digits Correctable c s
  -- call by call the answers of the first circuit's session, "past the correctable number too"
  pub answers_agree : (calls : List Call) → answers second_circuit s calls ≡ answers first_circuit (open_of first_circuit c) calls
