-- What opening a sending session with a card's bytes comes to, and what holds of the session: document 01, "The card" and "Refused because of
-- the state".
-- Assumes nothing.
use Rattle.std.specs.Prelude.{ℕ, ◌≡◌, List}
use Rattle.card.specs.Fields.{empty_card}
use Rattle.card.specs.Outcome.{Outcome, accepted, refused, outcome_of}
use Rattle.card.specs.Reading.{read_card}
use Rattle.code.specs.Code.{most_frames}
use Rattle.code.specs.declared.Card.{Card}
use Rattle.encoder.specs.Claims.{Claims}
use Rattle.encoder.specs.Sending.{unsent_of, open_of, refused_of, send_of, send_tail_of}
use Rattle.card.specs.declared.Opened.{Opened}
use Rattle.encoder.specs.declared.Session.{Session}

-- the session of a refused opening: the empty card, and no room for a frame
unfoldable pub closed : Session
closed = unsent_of empty_card most_frames

-- the session that reading a card leads to
unfoldable pub session_for : Outcome → Card → Session
session_for accepted c = open_of c
session_for (refused n offset) c = closed

-- every call is refused, and hands the session back as it was
pub record Closed (s : Session) : Type 0 where
  pub information_refused : (f : ℕ) → send_of s f ≡ refused_of s 15
  pub tail_refused : send_tail_of s ≡ refused_of s 17

pub record OpenPromise (bytes : List ℕ) (r : Opened Session) : Type 0 where
  -- the verdict of card reading, its number and offset, for every slice
  pub verdict_is : outcome_of r.verdict ≡ (read_card bytes).outcome
  pub session_is : r.session ≡ session_for (read_card bytes).outcome (read_card bytes).card
  -- any list of calls gives out what is sent
  pub claims : outcome_of r.verdict ≡ accepted → Claims (read_card bytes).card r.session
  pub shut : (n offset : ℕ) → outcome_of r.verdict ≡ refused n offset → Closed r.session
