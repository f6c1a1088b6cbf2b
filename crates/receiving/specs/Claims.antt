-- What holds of any list of receiving calls, refused ones included, on a session freshly opened with the card c: the notice's second and third
-- terms, by document 01, "Checks" and "What comes out as sent", and document 02, R-6. The session is of any kind x; `rule` is what its circuit is to hand
-- out for the frames taken, of which some digits may be erased, and `Correctable` the third term's condition: on the information frames sent, the frames taken and
-- their erased digits.
-- Assumes nothing.
use Rattle.std.specs.Prelude.{ℕ, ◌+◌, ◌^◌, ◌<◌, ◌≡◌, List, length, get_or}
use Rattle.code.specs.declared.Card.{Card}
use Rattle.receiving.specs.Receive.{Circuit}
use Rattle.receiving.specs.Calls.{Call, taken_frames, taken_erased, frames_handed_out, taken_answers, session_after, answers_by}

pub record ByRule {S : Type 0} (x : Circuit S) (rule : Card → List ℕ → List ℕ → List ℕ) (Correctable : Card → List ℕ → List ℕ → List ℕ → Type 0) (c : Card) (s : S) : Type 0 where
  -- the frames handed out are exactly those of the rule, for all frames taken
  pub handed_by_rule : (calls : List Call) → frames_handed_out x s calls ≡ rule c (taken_frames x s calls) (taken_erased x s calls)
  -- "the first m frames give 'waiting'; each later one gives the frame m before it"
  pub answers_by_rule : (calls : List Call) → taken_answers x s calls ≡ answers_by rule c (taken_frames x s calls) (taken_erased x s calls)
  -- if the frames taken are a whole stream sent for the information frames `info`, with its tail, whichever digits came wrong or were erased, and it is
  -- correctable, then it has come out as sent
  pub comes_out_as_sent : (calls : List Call) (info : List ℕ) → ((u : ℕ) → u < length info → get_or info u 0 < 2 ^ c.k)
      → length (taken_frames x s calls) ≡ length info + c.m → Correctable c info (taken_frames x s calls) (taken_erased x s calls) → frames_handed_out x s calls ≡ info
  -- the session keeps its card, and counts the frames taken: by both the next call is taken or refused
  pub card_kept : (calls : List Call) → x.card (session_after x s calls) ≡ c
  pub counted : (calls : List Call) → x.received (session_after x s calls) ≡ length (taken_frames x s calls)
