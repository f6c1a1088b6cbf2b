-- What a session refuses that was opened with the first 19 bytes of card P: document 01, "The first 19 bytes of P: 1 at 19", and every call after it. "A
-- refused call hands back the number, the former state".
-- Assumes nothing.
use Rattle.std.specs.Prelude.{◌≡◌}
use Rattle.card.specs.Outcome.{outcome_of}
use Rattle.card.specs.Outcome.Outcome.{refused}
use Rattle.card.specs.declared.Opened.{Opened}
use Rattle.receiving.specs.Answers as received
use Rattle.receiving.specs.Calls.{byte, reply_of}
use Rattle.receiving.specs.Receive.{Circuit}
use Rattle.encoder.specs.Outcome as sent
use Rattle.encoder.specs.Sending.{send_of, send_tail_of}
use Rattle.encoder.specs.declared.Session.{Session}

-- a receiving session of any kind
pub record ReceivesNothing {S : Type 0} (x : Circuit S) (r : Opened S) : Type 0 where
  pub verdict : outcome_of r.verdict ≡ refused 1 19
  -- under P's number, and under that of the closed session
  pub other_number : reply_of x r.session (byte 7 3) ≡ record { answer = received.refused 14; session = r.session }
  pub no_room : reply_of x r.session (byte 0 3) ≡ record { answer = received.refused 15; session = r.session }

pub record SendsNothing (r : Opened Session) : Type 0 where
  pub verdict : outcome_of r.verdict ≡ refused 1 19
  pub no_room : send_of r.session 1 ≡ record { outcome = sent.refused 15; session = r.session }
  pub no_tail : send_tail_of r.session ≡ record { outcome = sent.refused 17; session = r.session }
