-- The claims of a session applied to cards P and T. What the calls take is computed, and the answers to P's; what the
-- clauses give is not.
use Prim.Native.Nat.{ℕ}
use mathlib.Core.Path.{◌≡◌, refl, sym, ap, ap₂, ◌∙◌, subst}
use mathlib.Core.List.{List, [], ◌∷◌}
use lib.Count.{ones}
use Rattle.bits.specs.Sums.{sum_below, xor_below, up_to, put_first, back, grown}
use Rattle.bits.specs.Digits.{bit, from_digits, dot, shift_up}
use Rattle.code.specs.Bench.{P, T}
use Rattle.code.specs.Code.{generator, digit, parity_at}
use Rattle.code.specs.Checks.{count, check_mask, touches_info, touches_by, besides}
use Rattle.code.specs.Judging.{clashes}
use Rattle.code.specs.Registers.{generator_mask, generator_sum, shift_in, history_by, parity_by, digit_by, frame_by, syndromes_by, feedback_by, with_digits, with_words, moved_on}
use Rattle.vote.specs.Voting.{check_by, ones_by, if_whole, majority_by, decide_by}
use Rattle.majority.specs.AsSent.{Correctable}
use Rattle.majority.specs.Rule.{syndrome, cleared, check_at, voting, voters, votes, decide, decide_frame, decided, corrected, decoded, figure_by}
use Rattle.receiving.specs.Answers.{waiting, frame, refused}
use Rattle.receiving.specs.Readings.{in_band, digit_of_level, digit_of, digit_in, mark_in, fault_in, faults, frame_read, erased_read, read_byte_of, read_frame_of}
use Rattle.receiving.specs.Receive.{open_of, in_turn, admit_of, refused_of, settled_of, receive_of, receive_byte_of, receive_readings_of, with_frame, handing_of, taken_of}
use Rattle.receiving.specs.declared.Session.{Session}
use Rattle.receiving.specs.Calls.{Call, number_in, frame_in, erased_in, readable, taken, taken_parts, taken_frames, taken_erased, answers, reply_of, answers_by}
use Rattle.receiving.specs.Claims.{ByRule}
use Rattle.receiving.specs.Example.{calls_p_first, calls_p, calls_p_two_errors, calls_p_lost, ReceivesP, ReceivesFaintP, calls_t, calls_t_lost, ReceivesT}
use Rattle.receiving.proofs.Example as example
use Rattle.receiving.proofs.Example.{Takes, TakesFaint}
use Rattle.orthogonal.specs.Pass.{holds}
use Rattle.vote.specs.Voters.{all_voting, voting_by, stream_voters_by, voters_by, decide_marked}
use Rattle.decoder.specs.Held.{with_syndromes, fed_back, held_with_frame, next_held, corrected_digit, corrected_by}
use Rattle.decoder.specs.Receive.{errors_of, first_circuit}
use Rattle.decoder.specs.Claims.{Claims}
use Rattle.decoder.specs.Example.{FigureOfP}
use Rattle.decoder.specs.declared.Held.{Held}

-- what the calls take: those that are refused take nothing
taken-by : Takes first_circuit (open_of first_circuit P) calls_p (3 ∷ 3 ∷ 3 ∷ 2 ∷ []) (0 ∷ 0 ∷ 0 ∷ 1 ∷ [])
    × Takes first_circuit (open_of first_circuit P) calls_p_first (3 ∷ 3 ∷ []) (0 ∷ 0 ∷ [])
    × Takes first_circuit (open_of first_circuit P) calls_p_two_errors (2 ∷ 2 ∷ 0 ∷ 0 ∷ []) (0 ∷ 0 ∷ 0 ∷ 0 ∷ [])
    × Takes first_circuit (open_of first_circuit P) calls_p_lost (0 ∷ 1 ∷ 0 ∷ []) (3 ∷ 0 ∷ 0 ∷ [])
    × Takes first_circuit (open_of first_circuit T) calls_t (3 ∷ 0 ∷ 0 ∷ []) (0 ∷ 0 ∷ 0 ∷ [])
    × Takes first_circuit (open_of first_circuit T) calls_t_lost (1 ∷ 4 ∷ 4 ∷ []) (2 ∷ 0 ∷ 0 ∷ [])
unfolding sum_below bit from_digits in_band digit_of_level digit_of digit_in mark_in fault_in faults frame_read erased_read read_byte_of read_frame_of open_of with_frame handing_of taken_of in_turn admit_of refused_of settled_of receive_of receive_byte_of receive_readings_of number_in frame_in erased_in readable taken taken_parts reply_of
taken-by = ((refl, refl), (refl, refl), (refl, refl), (refl, refl), (refl, refl), (refl, refl))

taken_at : TakesFaint first_circuit (open_of first_circuit P)
unfolding sum_below bit from_digits in_band digit_of_level digit_of digit_in mark_in fault_in faults frame_read erased_read read_byte_of read_frame_of open_of with_frame handing_of taken_of in_turn admit_of refused_of settled_of receive_of receive_byte_of receive_readings_of number_in frame_in erased_in readable taken taken_parts reply_of
taken_at =
    record {
      quarter-taken = (refl, refl);
      faint-taken = (refl, refl);
    }

-- the answers, call by call: the second circuit's session is to give the same
pub answers-P : answers first_circuit (open_of first_circuit P) calls_p ≡ waiting ∷ frame 1 ∷ refused 14 ∷ refused 11 ∷ frame 0 ∷ refused 14 ∷ refused 12 ∷ frame 1 ∷ []
unfolding sum_below xor_below up_to put_first back bit from_digits dot shift_up generator touches_info touches_by besides clashes generator_mask generator_sum shift_in history_by parity_by digit_by frame_by syndromes_by feedback_by with_digits with_words moved_on check_by ones_by if_whole majority_by decide_by holds all_voting voting_by stream_voters_by voters_by corrected_digit corrected_by with_syndromes decide_marked fed_back held_with_frame next_held errors_of in_band digit_of_level digit_of digit_in mark_in fault_in faults frame_read erased_read read_byte_of read_frame_of open_of with_frame handing_of taken_of in_turn admit_of refused_of settled_of receive_of receive_byte_of receive_readings_of reply_of answers ones
answers-P = refl

takes : {s t : Session Held} → s ≡ t → (calls : List Call) {frames erased : List ℕ} → Takes first_circuit t calls frames erased → Takes first_circuit s calls frames erased
takes own calls e = (ap (λ (s : Session Held). taken_frames first_circuit s calls) own ∙ e.0, ap (λ (s : Session Held). taken_erased first_circuit s calls) own ∙ e.1)

module _ (s : Session Held) (own : s ≡ open_of first_circuit P) (claims : Claims P s) where
  pub receives-P : ReceivesP first_circuit s
  unfolding sum_below up_to back grown bit from_digits generator digit parity_at count check_mask touches_info touches_by besides clashes syndrome cleared check_at voting voters votes decide decide_frame decided corrected decoded answers_by
  receives-P =
      example.receives-P first_circuit decoded s claims.by_rule (takes own calls_p taken-by.0) (takes own calls_p_two_errors taken-by.2)
      (takes own calls_p_lost taken-by.3) refl refl refl

  pub receives-faint-P : ReceivesFaintP first_circuit s
  unfolding sum_below up_to back grown bit from_digits generator digit parity_at count check_mask touches_info touches_by besides clashes syndrome cleared check_at voting voters votes decide decide_frame decided corrected decoded
  receives-faint-P =
      let by_rule = subst (ByRule first_circuit decoded Correctable P) own claims.by_rule in
      subst (ReceivesFaintP first_circuit) (sym own) (example.receives-faint-P first_circuit decoded (open_of first_circuit P) by_rule taken_at refl refl)

  pub figure-P : FigureOfP s
  unfolding sum_below up_to back grown bit from_digits generator digit parity_at count check_mask touches_info touches_by besides clashes syndrome cleared check_at voting voters votes decide decide_frame decided figure_by
  figure-P = let t = takes own calls_p_first taken-by.1 in claims.figure_by_rule calls_p_first ∙ ap₂ (figure_by P) t.0 t.1

pub receives-T : (s : Session Held) → s ≡ open_of first_circuit T → Claims T s → ReceivesT first_circuit s
receives-T s own claims = example.receives-T first_circuit decoded s claims.by_rule (takes own calls_t taken-by.4) (takes own calls_t_lost taken-by.5)
