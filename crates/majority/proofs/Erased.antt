-- What comes out where digits are erased, by computing. The second circuit's rows are computed in `clients`, where no edit pays for them.
use mathlib.Core.Path.{refl}
use Rattle.bits.specs.Sums.{sum_below, up_to, back, grown}
use Rattle.bits.specs.Digits.{bit, from_digits}
use Rattle.code.specs.Code.{generator, digit, parity_at}
use Rattle.code.specs.Checks.{count, check_mask, touches_info, touches_by, besides}
use Rattle.code.specs.Judging.{clashes}
use Rattle.majority.specs.Rule.{syndrome, cleared, check_at, voting, voters, votes, decide, decide_frame, decided, corrected, decoded}
use Rattle.majority.specs.Erased.{ErasedRows}

pub erased-rows : ErasedRows decoded
unfolding sum_below up_to back grown bit from_digits generator digit parity_at count check_mask touches_info touches_by besides clashes syndrome cleared check_at voting voters votes decide decide_frame decided corrected decoded
erased-rows =
    record {
      frame_lost = refl;
      frame_not_lost = refl;
      one_vote = refl;
      own_lost = refl;
      no_vote = refl;
      no_vote_not_lost = refl;
      all_lost = refl;
      information_lost = refl;
      parity_lost = refl;
      decided_times = refl;
      two_syndromes = refl;
      two_syndromes_lost = refl;
      own_stream = refl;
      other_stream = refl;
      five_votes = refl;
      parity_3_lost = refl;
      parity_3_not_lost = refl;
      parity_2_lost = refl;
      parity_2_not_lost = refl;
    }
