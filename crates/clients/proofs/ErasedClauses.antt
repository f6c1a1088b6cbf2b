-- What comes out where digits are erased, by the second circuit, by computing.
use mathlib.Core.Path.{refl}
use Rattle.bits.specs.Sums.{sum_below, back, grown}
use Rattle.bits.specs.Digits.{bit, from_digits}
use Rattle.code.specs.Code.{generator, digit}
use Rattle.code.specs.Checks.{count, check_mask, touches_info, touches_by, besides}
use Rattle.code.specs.Judging.{clashes}
use Rattle.majority.specs.Rule.{voting, voters}
use Rattle.majority.specs.SecondCircuit.{entering, vote, votes_for_one, decide_digit, decide_digits, decided_digits, decoded_by_digits}
use Rattle.majority.specs.Erased.{ErasedRows}

pub erased-rows-by-digits : ErasedRows decoded_by_digits
unfolding sum_below back grown bit from_digits generator digit count check_mask touches_info touches_by besides clashes voting voters entering vote votes_for_one decide_digit decide_digits decided_digits decoded_by_digits
erased-rows-by-digits =
    record {
      frame_lost = refl;
      frame_not_lost = refl;
      one_vote = refl;
      own_lost = refl;
      no_vote = refl;
      no_vote_not_lost = refl;
      all_lost = refl;
      information_lost = refl;
      parity_lost = refl;
      decided_times = refl;
      two_syndromes = refl;
      two_syndromes_lost = refl;
      own_stream = refl;
      other_stream = refl;
      five_votes = refl;
      parity_3_lost = refl;
      parity_3_not_lost = refl;
      parity_2_lost = refl;
      parity_2_not_lost = refl;
    }
