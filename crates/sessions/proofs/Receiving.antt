-- A turn of the receiving run, and its end.
use Prim.Native.Nat.{ℕ, suc, ◌+◌, ◌≤◌, ◌<◌}
use mathlib.Core.Path.{◌≡◌, refl, sym, ap, ◌∙◌}
use mathlib.Core.List.{List, [], ◌∷◌, ◌++◌, map}
use native.Mathlib.Numerals.{add-one}
use native.Mathlib.Omega.{arith}
use lib.ListN.{length, get_or, drop, length-append, drop_of_length-le}
use lib.Seq.{drop-cons}
use Rattle.std.specs.Prelude.{Option, Some, None, Result, Ok, Err}
use Rattle.std.specs.Result.{result_unwrap_or}
use Rattle.card.specs.declared.Refusal.{Refusal}
use Rattle.receiving.specs.Answers.{Given, waiting, frame, refused, answer_of, Reply, published}
use Rattle.receiving.specs.Calls.{byte, reply_of, answers, handed_by, handed_in, frames_handed_out}
use Rattle.receiving.specs.Opening.{session_for}
use Rattle.card.specs.Outcome.{accepted}
use Rattle.card.specs.Reading.{read_card}
use Rattle.outcomes.specs.Outcome.{BurstOutcome}
use Rattle.sessions.specs.Receiving.{receive_on, session_receive_of}
use Rattle.sessions.proofs.Running.{under-accepted}
use Rattle.receiving.specs.Receive.{receive_byte_of}
use Rattle.decoder.specs.Receive.{first_circuit}
use Rattle.decoder.specs.declared.Held.{Held}
use Rattle.receiving.specs.declared.Session.{Session}

-- the frames that the calls from turn t on hand out
abbrev pub rest_of : ℕ → List ℕ → Session Held → ℕ → List ℕ
rest_of number input s t = frames_handed_out first_circuit s (map (byte number) (drop t input))

-- the frame of an answer, if it is one
pub handed-some : (came : Result (Option ℕ) Refusal) (f : ℕ) → result_unwrap_or came None ≡ Some f → handed_by (answer_of came) ≡ f ∷ []
unfolding handed_by
handed-some (Ok None) f e = cc
handed-some (Ok (Some g)) f e = cc
handed-some (Err refusal) f e = cc

pub handed-none : (came : Result (Option ℕ) Refusal) → result_unwrap_or came None ≡ None → handed_by (answer_of came) ≡ []
unfolding handed_by
handed-none (Ok None) e = refl
handed-none (Ok (Some g)) e = cc
handed-none (Err refusal) e = refl

one-most : (a : Given) → length (handed_by a) ≤ 1
unfolding handed_by
one-most waiting = omega arith
one-most (frame f) = omega arith
one-most (refused n) = omega arith

-- each call hands out one frame at most
pub frames-most : (number : ℕ) (input : List ℕ) (s : Session Held) → length (frames_handed_out first_circuit s (map (byte number) input)) ≤ length input
unfolding handed_in answers
frames-most number [] s = omega arith
frames-most number (f ∷ input) s =
    let reply = reply_of first_circuit s (byte number f) in
    let later = frames_handed_out first_circuit reply.session (map (byte number) input) in
    omega (arith, length-append (handed_by reply.answer) later, one-most reply.answer, frames-most number input reply.session)

module _ (number : ℕ) (input : List ℕ) (s : Session Held) (t : ℕ) where
  pub rest-turn : (came : Result (Option ℕ) Refusal) (next : Session Held) → t < length input → published came next ≡ receive_byte_of first_circuit s number (get_or input t 0)
      → rest_of number input s t ≡ handed_by (answer_of came) ++ rest_of number input next (t + 1)
  unfolding handed_in answers reply_of
  rest-turn came next h e =
      rw (add-one, drop-cons input t 0)
      (ap (λ (y : Reply (Session Held)). handed_by y.answer ++ frames_handed_out first_circuit y.session (map (byte number) (drop (suc t) input))) (sym e))

  pub rest_end : length input ≤ t → rest_of number input s t ≡ []
  unfolding handed_in answers
  rest_end h = ap (λ (l : List ℕ). frames_handed_out first_circuit s (map (byte number) l)) (drop_of_length-le input h)

-- ---- with the card: the run on the session that opening gives
module _ (card input output : List ℕ) (s : Session Held) (opened : s ≡ session_for first_circuit (read_card card)) (good : (read_card card).outcome ≡ accepted) where
  pub on-session : {came : BurstOutcome} → came ≡ receive_on s input output → came ≡ session_receive_of card input output
  unfolding session_receive_of
  on-session e =
      e ∙ ap (λ (x : Session Held). receive_on x input output) opened ∙ under-accepted (receive_on (session_for first_circuit (read_card card)) input output) output good
