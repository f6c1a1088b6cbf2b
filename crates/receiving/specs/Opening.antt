-- What opening a receiving session with a card's bytes comes to, and what holds of the session: document 01, "The card" and "Refused because of
-- the state". The session is of any kind x.
-- Assumes nothing.
use Rattle.std.specs.Prelude.{ℕ, ◌≡◌, List}
use Rattle.card.specs.Outcome.{Outcome, accepted, refused, CardOutcome}
use Rattle.card.specs.Reading.{read_card}
use Rattle.code.specs.Code.{most_frames}
use Rattle.code.specs.Guarantees.{Guarantees}
use Rattle.code.specs.declared.Card.{Card}
use Rattle.receiving.specs.Receive.{Circuit, open_of, refused_of}
use Rattle.receiving.specs.Calls.{Call, number_in, reply_of}

-- how many frames a session counts as received when it is opened: a refused card leaves no room for a frame
unfoldable pub counted_at : Outcome → ℕ
counted_at accepted = 0
counted_at (refused n offset) = most_frames

-- the session that reading a card leads to; a card that is refused is read as the empty one
abbrev pub session_for : {S : Type 0} → Circuit S → CardOutcome → S
session_for x r = x.fresh r.card (counted_at r.outcome)

-- every call is refused, and hands the session back as it was
pub record Closed {S : Type 0} (x : Circuit S) (s : S) : Type 0 where
  pub other_refused : (call : Call) → (number_in call ≡ (x.card s).number → ⊥) → reply_of x s call ≡ refused_of s 14
  pub own_refused : (call : Call) → number_in call ≡ (x.card s).number → reply_of x s call ≡ refused_of s 15

-- opening with these bytes gives this outcome and session; `Claims` is what holds of a session that is freshly opened with an accepted card
pub record Opens {S : Type 0} (x : Circuit S) (Claims : Card → S → Type 0) (bytes : List ℕ) (outcome : Outcome) (s : S) : Type 0 where
  -- the verdict of card reading, its number and offset, for every slice
  pub verdict_is : outcome ≡ (read_card bytes).outcome
  pub session_is : s ≡ session_for x (read_card bytes)
  pub claims : outcome ≡ accepted → Claims (read_card bytes).card s
  pub shut : (n offset : ℕ) → outcome ≡ refused n offset → Closed x s

-- what holds whatever the circuit does: the session is as before its first frame, and its card has what reading it guarantees
pub record Fresh {S : Type 0} (x : Circuit S) (c : Card) (s : S) : Type 0 where
  pub guaranteed : Guarantees c
  pub is_fresh : s ≡ open_of x c

abbrev pub OpensFresh : {S : Type 0} → Circuit S → List ℕ → Outcome → S → Type 0
OpensFresh x bytes outcome s = Opens x (Fresh x) bytes outcome s
