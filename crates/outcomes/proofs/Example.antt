-- Document 01's example of a listing, byte for byte from the definition: card P and frame bytes 3, 3, 3, 2.
use mathlib.Core.Path.{◌≡◌, refl}
use mathlib.Core.List.{[], ◌∷◌, ◌++◌}
use Rattle.bits.specs.Sums.{sum_below, up_to, back, grown}
use Rattle.bits.specs.Digits.{bit, from_digits, any_beyond}
use Rattle.code.specs.Code.{generator, digit, parity_at}
use Rattle.code.specs.Checks.{count, check_mask, touches_info, touches_by, besides}
use Rattle.code.specs.Judging.{clashes, judge}
use Rattle.card.specs.Fields.{store, store_rows, store_checks, store_streams, store_counts, card_of}
use Rattle.card.specs.Reading.{byte_field, standing_field, k_field, n_field, map_field, word_at, mask_field, read_head, standing_mask, read_masks, read_rows, read_generators, touched_by, read_check, read_checks, read_streams, read_fields, read_under}
use Rattle.card.specs.Bench.{card_p}
use Rattle.majority.specs.Rule.{syndrome, cleared, check_at, voting, voters, votes, decide, decide_frame, decided, corrected, decoded}
use Rattle.outcomes.specs.Text.{text, decimal_within, decimal, spaced, line}
use Rattle.outcomes.specs.Listing.{stated_length, card_bytes, frame_bytes, is_too_long, card_line, frame_line, frame_lines, line_of_end, listing_of, listing_under, listing}

pub example : listing (20 ∷ 0 ∷ (card_p ++ (3 ∷ 3 ∷ 3 ∷ 2 ∷ []))) ≡ text "card 7 k 1 n 2 m 1\n0 1\n1 0\n2 1\nend 3\n"
unfolding sum_below up_to back grown bit from_digits any_beyond generator digit parity_at count check_mask touches_info touches_by store store_rows store_checks store_streams store_counts card_of byte_field standing_field k_field n_field map_field word_at mask_field read_head standing_mask read_masks read_rows read_generators besides touched_by clashes judge read_check read_checks read_streams read_fields read_under syndrome cleared check_at voting voters votes decide decide_frame decided corrected decoded text decimal_within decimal spaced line stated_length card_bytes frame_bytes is_too_long card_line frame_line frame_lines line_of_end listing_of listing_under listing
example = refl
