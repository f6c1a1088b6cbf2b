-- The claims of a session applied to cards P and T. What the calls take is computed; what they come to is not, but for the answers of the first circuit's
-- session, with which this one's agree.
use Prim.Native.Nat.{ℕ}
use mathlib.Core.Path.{◌≡◌, refl, sym, ap, ◌∙◌, subst}
use mathlib.Core.List.{List, [], ◌∷◌}
use Rattle.bits.specs.Sums.{sum_below, up_to, back, grown}
use Rattle.bits.specs.Digits.{bit, from_digits}
use Rattle.code.specs.Bench.{P, T}
use Rattle.code.specs.Code.{generator, digit}
use Rattle.code.specs.Checks.{count, check_mask, touches_info, touches_by, besides}
use Rattle.code.specs.Judging.{clashes}
use Rattle.majority.specs.AsSent.{Correctable}
use Rattle.majority.specs.Rule.{voting, voters}
use Rattle.majority.specs.SecondCircuit.{entering, vote, votes_for_one, decide_digit, decide_digits, decided_digits, decoded_by_digits}
use Rattle.receiving.specs.Readings.{in_band, digit_of_level, digit_of, digit_in, mark_in, fault_in, faults, frame_read, erased_read, read_byte_of, read_frame_of}
use Rattle.receiving.specs.Receive.{open_of, in_turn, admit_of, refused_of, settled_of, receive_of, receive_byte_of, receive_readings_of, with_frame, handing_of, taken_of}
use Rattle.receiving.specs.declared.Session.{Session}
use Rattle.receiving.specs.Calls.{Call, number_in, frame_in, erased_in, readable, taken, taken_parts, taken_frames, taken_erased, reply_of, answers_by}
use Rattle.receiving.specs.Claims.{ByRule}
use Rattle.receiving.specs.Example.{calls_p, calls_p_two_errors, calls_p_lost, ReceivesP, ReceivesFaintP, calls_t, calls_t_lost, ReceivesT}
use Rattle.receiving.proofs.Example as example
use Rattle.receiving.proofs.Example.{Takes, TakesFaint}
use Rattle.decoder.proofs.Example.{answers-P}
use Rattle.digit_decoder.specs.Receive.{second_circuit}
use Rattle.digit_decoder.specs.Claims.{Claims}
use Rattle.digit_decoder.specs.Example.{AnswersOfP}
use Rattle.digit_decoder.specs.declared.Held.{Held}

-- what the calls take: those that are refused take nothing
taken-by : Takes second_circuit (open_of second_circuit P) calls_p (3 ∷ 3 ∷ 3 ∷ 2 ∷ []) (0 ∷ 0 ∷ 0 ∷ 1 ∷ [])
    × Takes second_circuit (open_of second_circuit P) calls_p_two_errors (2 ∷ 2 ∷ 0 ∷ 0 ∷ []) (0 ∷ 0 ∷ 0 ∷ 0 ∷ [])
    × Takes second_circuit (open_of second_circuit P) calls_p_lost (0 ∷ 1 ∷ 0 ∷ []) (3 ∷ 0 ∷ 0 ∷ [])
    × Takes second_circuit (open_of second_circuit T) calls_t (3 ∷ 0 ∷ 0 ∷ []) (0 ∷ 0 ∷ 0 ∷ [])
    × Takes second_circuit (open_of second_circuit T) calls_t_lost (1 ∷ 4 ∷ 4 ∷ []) (2 ∷ 0 ∷ 0 ∷ [])
unfolding sum_below bit from_digits in_band digit_of_level digit_of digit_in mark_in fault_in faults frame_read erased_read read_byte_of read_frame_of open_of with_frame handing_of taken_of in_turn admit_of refused_of settled_of receive_of receive_byte_of receive_readings_of number_in frame_in erased_in readable taken taken_parts reply_of
taken-by = ((refl, refl), (refl, refl), (refl, refl), (refl, refl), (refl, refl))

taken_at : TakesFaint second_circuit (open_of second_circuit P)
unfolding sum_below bit from_digits in_band digit_of_level digit_of digit_in mark_in fault_in faults frame_read erased_read read_byte_of read_frame_of open_of with_frame handing_of taken_of in_turn admit_of refused_of settled_of receive_of receive_byte_of receive_readings_of number_in frame_in erased_in readable taken taken_parts reply_of
taken_at =
    record {
      quarter-taken = (refl, refl);
      faint-taken = (refl, refl);
    }

takes : {s t : Session Held} → s ≡ t → (calls : List Call) {frames erased : List ℕ} → Takes second_circuit t calls frames erased → Takes second_circuit s calls frames erased
takes own calls e = (ap (λ (s : Session Held). taken_frames second_circuit s calls) own ∙ e.0, ap (λ (s : Session Held). taken_erased second_circuit s calls) own ∙ e.1)

module _ (s : Session Held) (own : s ≡ open_of second_circuit P) (claims : Claims P s) where
  pub receives-P : ReceivesP second_circuit s
  unfolding sum_below up_to back grown bit from_digits generator digit count check_mask touches_info touches_by besides clashes voting voters entering vote votes_for_one decide_digit decide_digits decided_digits decoded_by_digits answers_by
  receives-P =
      example.receives-P second_circuit decoded_by_digits s claims.by_rule (takes own calls_p taken-by.0) (takes own calls_p_two_errors taken-by.1)
      (takes own calls_p_lost taken-by.2) refl refl refl

  pub receives-faint-P : ReceivesFaintP second_circuit s
  unfolding sum_below up_to back grown bit from_digits generator digit count check_mask touches_info touches_by besides clashes voting voters entering vote votes_for_one decide_digit decide_digits decided_digits decoded_by_digits
  receives-faint-P =
      let by_rule = subst (ByRule second_circuit decoded_by_digits Correctable P) own claims.by_rule in
      subst (ReceivesFaintP second_circuit) (sym own) (example.receives-faint-P second_circuit decoded_by_digits (open_of second_circuit P) by_rule taken_at refl refl)

  -- every call is answered as the first circuit's session answers it
  pub answers-as-P : AnswersOfP s
  answers-as-P = claims.answers_agree calls_p ∙ answers-P

pub receives-T : (s : Session Held) → s ≡ open_of second_circuit T → Claims T s → ReceivesT second_circuit s
receives-T s own claims = example.receives-T second_circuit decoded_by_digits s claims.by_rule (takes own calls_t taken-by.3) (takes own calls_t_lost taken-by.4)
