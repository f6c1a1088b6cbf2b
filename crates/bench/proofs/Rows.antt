-- The starred cases follow from the definitions, by computing. Assumes nothing.
use mathlib.Core.Path.{refl}
use Rattle.bits.specs.Sums.{sum_below, up_to, back, grown}
use Rattle.bits.specs.Digits.{bit, from_digits, any_beyond}
use Rattle.code.specs.Code.{generator, digit, parity_at, with_tail, sent_digit, sent_frame, sent}
use Rattle.code.specs.Checks.{count, check_mask, touches_info, touches_by, besides}
use Rattle.code.specs.Judging.{clashes, judge}
use Rattle.card.specs.Fields.{store, store_rows, store_checks, store_streams, store_counts, card_of}
use Rattle.card.specs.Reading.{byte_field, standing_field, k_field, n_field, map_field, word_at, mask_field, read_head, standing_mask, read_masks, read_rows, read_generators, touched_by, read_check, read_checks, read_streams, read_fields, read_under}
use Rattle.majority.specs.Rule.{syndrome, cleared, check_at, voting, voters, votes, decide, decide_frame, decided, corrected, decoded}
use Rattle.majority.proofs.Erased.{erased-rows}
use Rattle.receiving.specs.Calls.{answers_by}
use Rattle.receiving.proofs.LevelRows.{level-rows}
use Rattle.outcomes.specs.Outcome.{refused_of, given_of, with_room, under_card}
use Rattle.outcomes.specs.Receiving.{receive_under, receive_of}
use Rattle.card.specs.Bench.{checks}
use Rattle.bench.specs.Rows.{Rows}

pub rows : Rows
unfolding sum_below up_to back grown bit from_digits any_beyond generator digit parity_at with_tail sent_digit sent_frame sent count check_mask syndrome cleared check_at voting voters votes decide decide_frame decided corrected decoded answers_by refused_of given_of with_room under_card receive_under receive_of touches_info touches_by store store_rows store_checks store_streams store_counts card_of byte_field standing_field k_field n_field map_field word_at mask_field read_head standing_mask read_masks read_rows read_generators besides touched_by clashes judge read_check read_checks read_streams read_fields read_under checks
rows =
    record {
      p_is_accepted = refl;
      q_is_accepted = refl;
      r_is_accepted = refl;
      r_with_s5 = refl;
      q_with_s2 = refl;
      t_is_accepted = refl;
      t_with_s2 = refl;
      p_cut = refl;
      p_longer = refl;
      q_with_s0_again = refl;
      p_sends = refl;
      p_receives = refl;
      p_receives_two_errors = refl;
      q_receives = refl;
      p_receives_one = refl;
      empty_burst = refl;
      t_receives = refl;
      k_stated = refl;
      n_stated = refl;
      both_stated = refl;
      k_was_stated = refl;
      n_was_stated = refl;
      both_were_stated = refl;
      before_n = refl;
      n_range_first = refl;
      k_range_first = refl;
      end_first = refl;
      other_n = refl;
      other_k = refl;
      ten_checks = refl;
      eleven_checks = refl;
      ten_were_stored = refl;
      eleven_were_stored = refl;
      erased = erased-rows;
      levels = level-rows;
    }
