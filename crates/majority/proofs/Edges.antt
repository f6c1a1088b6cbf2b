-- The streams at the edge of the condition, by computing it.
use mathlib.Core.Path.{refl}
use native.Mathlib.Omega.{arith}
use Rattle.bits.specs.Sums.{sum_below, up_to, back}
use Rattle.bits.specs.Digits.{bit, from_digits}
use Rattle.bits.proofs.Sums.{all-at_most-twice}
use Rattle.code.specs.Code.{generator, digit, parity_at, with_tail, sent_digit, sent_frame, sent}
use Rattle.code.specs.Checks.{count, check_mask, touches_info, touches_by, touches, besides}
use Rattle.code.specs.Judging.{clashes}
use Rattle.majority.specs.Rule.{voting, voters}
use Rattle.majority.specs.AsSent.{wrong, touched, wrong_touched}
use Rattle.majority.specs.AsSent as AsSent
use Rattle.majority.specs.Plain.{Correctable}
use Rattle.majority.specs.Edges.{Edges, ErasedEdges}

pub edges : Edges Correctable
unfolding sum_below up_to back bit from_digits generator digit parity_at with_tail sent_digit sent_frame sent count check_mask touches_info touches_by touches besides clashes voting voters wrong touched wrong_touched
edges =
    record {
      p_one = all-at_most-twice _ _ _ _ refl;
      p_two = λ few. let h = few 1 0 (omega arith) (omega arith) in omega arith;
      p_own = all-at_most-twice _ _ _ _ refl;
      p_own_and_parity = λ few. let h = few 0 0 (omega arith) (omega arith) in omega arith;
      p_none = all-at_most-twice _ _ _ _ refl;
      p_long = all-at_most-twice _ _ _ _ refl;
      p_long_last = λ few. let h = few 19 0 (omega arith) (omega arith) in omega arith;
      q_one = all-at_most-twice _ _ _ _ refl;
      q_two = λ few. let h = few 0 0 (omega arith) (omega arith) in omega arith;
      q_tail = all-at_most-twice _ _ _ _ refl;
      q_tail_touched = λ few. let h = few 0 0 (omega arith) (omega arith) in omega arith;
      r_two = all-at_most-twice _ _ _ _ refl;
      r_three = λ few. let h = few 0 0 (omega arith) (omega arith) in omega arith;
      t_one_each = all-at_most-twice _ _ _ _ refl;
      t_two_for_stream_1 = λ few. let h = few 0 0 (omega arith) (omega arith) in omega arith;
      t_two_for_stream_2 = λ few. let h = few 0 1 (omega arith) (omega arith) in omega arith;
    }

pub erased-edges : ErasedEdges AsSent.Correctable
unfolding sum_below up_to back bit from_digits generator digit parity_at with_tail sent_digit sent_frame sent count check_mask touches_info touches_by touches besides clashes voting voters wrong touched wrong_touched
erased-edges =
    record {
      q_frame_lost = all-at_most-twice _ _ _ _ refl;
      q_frame_lost_two = λ few. let h = few 0 0 (omega arith) (omega arith) in omega arith;
      q_frame_not_lost = λ few. let h = few 0 0 (omega arith) (omega arith) in omega arith;
      q_one_vote = all-at_most-twice _ _ _ _ refl;
      q_one_vote_one = λ few. let h = few 0 0 (omega arith) (omega arith) in omega arith;
      q_own = all-at_most-twice _ _ _ _ refl;
      q_own_and_one = λ few. let h = few 0 0 (omega arith) (omega arith) in omega arith;
      q_own_of_zero = all-at_most-twice _ _ _ _ refl;
      q_no_vote = all-at_most-twice _ _ _ _ refl;
      q_no_vote_own = λ few. let h = few 0 0 (omega arith) (omega arith) in omega arith;
      q_all_lost = all-at_most-twice _ _ _ _ refl;
      q_all_lost_of_one = λ few. let h = few 0 0 (omega arith) (omega arith) in omega arith;
      p_decided = all-at_most-twice _ _ _ _ refl;
      p_decided_two = λ few. let h = few 1 0 (omega arith) (omega arith) in omega arith;
      p_tail = all-at_most-twice _ _ _ _ refl;
      p_tail_last = λ few. let h = few 2 0 (omega arith) (omega arith) in omega arith;
      t_one_each = all-at_most-twice _ _ _ _ refl;
      t_other_stream = all-at_most-twice _ _ _ _ refl;
      t_other_stream_one = λ few. let h = few 0 0 (omega arith) (omega arith) in omega arith;
      t_other_stream_two = λ few. let h = few 0 1 (omega arith) (omega arith) in omega arith;
    }
