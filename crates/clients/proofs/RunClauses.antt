-- What the promises of the runs give for card P.
use Prim.Native.Nat.{ℕ, ◌≤◌}
use mathlib.Core.Path.{◌≡◌, refl, sym, ap, ◌∙◌}
use mathlib.Core.List.{List, [], ◌∷◌, ◌++◌}
use native.Mathlib.Omega.{arith}
use lib.Count.{ones}
use borrow.Author.Tests.{le-ltb}
use lib.ListN.{length, take, drop}
use lib.IntN.{pos, neg_ℤ}
use Rattle.bits.specs.Sums.{sum_below, xor_below, up_to, put_first}
use Rattle.bits.specs.Digits.{bit, from_digits, dot, shift_up}
use Rattle.code.specs.Bench.{P}
use Rattle.code.specs.Code.{most_frames}
use Rattle.code.specs.Registers.{generator_mask, generator_sum, shift_in, history_by, parity_by, digit_by, frame_by, syndromes_by, feedback_by, with_digits, with_words, moved_on}
use Rattle.card.specs.Bench.{card_p}
use Rattle.card.specs.Outcome.{CardOutcome}
use Rattle.vote.specs.Voters.{all_voting, voters_by, decide_marked}
use Rattle.vote.specs.Voting.{check_by, ones_by, if_whole, majority_by, decide_by}
use Rattle.receiving.specs.Calls.{reply_of, answers, handed_by, handed_in}
use Rattle.receiving.specs.Opening as receiver
use Rattle.receiving.specs.Readings.{read_byte_of}
use Rattle.receiving.specs.Receive as received
use Rattle.decoder.specs.Held.{with_syndromes, fed_back, held_with_frame, next_held, corrected_digit, corrected_by}
use Rattle.decoder.specs.Receive.{first_circuit, errors_of}
use Rattle.encoder.specs.Calls.{call_of, given_by, frames_given}
use Rattle.encoder.specs.Opening as sender
use Rattle.encoder.specs.Sending as sent
use Rattle.outcomes.specs.Outcome.{outcome, refused_of, given_of, under_card}
use Rattle.outcomes.proofs.ReadCards.{read-P, read-short-P}
use Rattle.sessions.specs.Receiving as receiving
use Rattle.sessions.specs.Run.{run_of}
use Rattle.sessions.specs.Sending as sending
use Rattle.sessions.proofs.Running.{run-full, run_short, under-refused}

-- ---- under the card that P's bytes are read as
module _ (input output : List ℕ) where
  received-P : receiving.session_receive_of card_p input output ≡ receiving.receive_on (received.open_of first_circuit P) input output
  unfolding receiving.session_receive_of under_card receiver.counted_at received.open_of
  received-P = ap (λ (read : CardOutcome). under_card read.outcome (receiving.receive_on (receiver.session_for first_circuit read) input output) output) read-P

  sent-P : sending.session_send_of card_p input output ≡ sending.send_on (sent.open_of P) input output
  unfolding sending.session_send_of under_card sender.session_for
  sent-P = ap (λ (read : CardOutcome). under_card read.outcome (sending.send_on (sender.session_for read.outcome read.card) input output) output) read-P

  pub short-received : receiving.session_receive_of (take 19 card_p) input output ≡ outcome (neg_ℤ (pos 1)) output
  unfolding receiving.session_receive_of refused_of
  short-received = sym (under-refused _ output read-short-P)

  pub short-sent : sending.session_send_of (take 19 card_p) input output ≡ outcome (neg_ℤ (pos 1)) output
  unfolding sending.session_send_of refused_of
  short-sent = sym (under-refused _ output read-short-P)

-- ---- the frames that the calls hand out, computed
abbrev one_wrong : List ℕ
one_wrong = 3 ∷ 3 ∷ 3 ∷ 2 ∷ []

abbrev one_refused : List ℕ
one_refused = 3 ∷ 3 ∷ 4 ∷ 3 ∷ 2 ∷ []

abbrev information : List ℕ
information = 1 ∷ 2 ∷ 0 ∷ 1 ∷ []

frames-out : (receiving.frames_of (received.open_of first_circuit P) one_wrong ≡ 1 ∷ 0 ∷ 1 ∷ []) × (receiving.frames_of (received.open_of first_circuit P) one_refused ≡ 1 ∷ 0 ∷ 1 ∷ [])
unfolding sum_below xor_below up_to put_first bit from_digits dot shift_up generator_mask generator_sum shift_in history_by parity_by digit_by frame_by syndromes_by feedback_by with_digits with_words moved_on check_by ones_by if_whole majority_by decide_by all_voting voters_by corrected_digit corrected_by with_syndromes decide_marked fed_back held_with_frame next_held errors_of read_byte_of received.open_of received.with_frame received.handing_of received.taken_of received.in_turn received.admit_of received.refused_of received.settled_of received.receive_of received.receive_byte_of reply_of handed_by handed_in answers ones
frames-out = (refl, refl)

frames-sent : sending.frames_of (sent.open_of P) information ≡ 3 ∷ 2 ∷ 3 ∷ 2 ∷ []
unfolding sum_below up_to put_first bit from_digits dot generator_mask shift_in history_by parity_by digit_by frame_by sent.open_of sent.refused_of sent.history_next sent.frame_next sent.encoded_of sent.send_of sent.send_tail_of call_of given_by frames_given
frames-sent = refl

-- ---- what the runs come to
given : (calls : ℕ) {frames : List ℕ} (out output : List ℕ) → frames ≡ out → calls ≤ most_frames → calls ≤ length output
    → run_of calls frames output ≡ outcome (pos (length out)) (out ++ drop (length out) output)
unfolding run_of given_of
given calls out output e r o = ap (λ f. run_of calls f output) e ∙ rw (le-ltb most_frames calls r, le-ltb (length output) calls o)

module _ (output : List ℕ) where
  pub receives : length output ≡ 4 → receiving.session_receive_of card_p one_wrong output ≡ outcome (pos 3) (1 ∷ 0 ∷ 1 ∷ drop 3 output)
  receives room = received-P one_wrong output ∙ given 4 (1 ∷ 0 ∷ 1 ∷ []) output frames-out.0 (omega arith) (omega arith)

  pub receives-on : length output ≡ 6 → receiving.session_receive_of card_p one_refused output ≡ outcome (pos 3) (1 ∷ 0 ∷ 1 ∷ drop 3 output)
  receives-on room = received-P one_refused output ∙ given 5 (1 ∷ 0 ∷ 1 ∷ []) output frames-out.1 (omega arith) (omega arith)

  pub finds-no_room : length output ≡ 3 → receiving.session_receive_of card_p one_wrong output ≡ outcome (neg_ℤ (pos 13)) output
  unfolding refused_of
  finds-no_room room = received-P one_wrong output ∙ run_short 4 _ output (omega arith) (omega arith)

  pub sends : length output ≡ 6 → sending.session_send_of card_p information output ≡ outcome (pos 4) (3 ∷ 2 ∷ 3 ∷ 2 ∷ drop 4 output)
  unfolding sent.open_of
  sends room = sent-P information output ∙ given 5 (3 ∷ 2 ∷ 3 ∷ 2 ∷ []) output frames-sent (omega arith) (omega arith)

  pub no_room-for-the-tail : length output ≡ 3 → sending.session_send_of card_p (1 ∷ 0 ∷ 1 ∷ []) output ≡ outcome (neg_ℤ (pos 13)) output
  unfolding sent.open_of refused_of
  no_room-for-the-tail room = sent-P (1 ∷ 0 ∷ 1 ∷ []) output ∙ run_short 4 _ output (omega arith) (omega arith)

pub most-calls : (run_of 1048576 [] [] ≡ refused_of 13 []) × (run_of 1048577 [] [] ≡ refused_of 15 [])
most-calls = (run_short 1048576 [] [] (omega arith) (omega arith), run-full 1048577 [] [] (omega arith))
