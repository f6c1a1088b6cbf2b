-- The written form of cards of the bench, by computing, and what a stored card is read as under the former rule.
use mathlib.Core.Path.{◌≡◌, refl}
use Rattle.bits.specs.Sums.{sum_below, up_to, back}
use Rattle.bits.specs.Digits.{bit}
use Rattle.code.specs.Bench.{P, T}
use Rattle.code.specs.Code.{generator}
use Rattle.code.specs.Checks.{count, check_mask, touches_info, touches_by, besides}
use Rattle.code.specs.Judging.{clashes, judge}
use Rattle.card.specs.Bench.{checks, card_p}
use Rattle.card.specs.Fields.{store, store_rows, store_checks, store_streams, store_counts, card_of}
use Rattle.card.specs.Layout.{bytes4, stands, map_of, layout_masks, optional, layout_head, all_rows, layout_rows, layout_checks, layout_streams, layout}
use Rattle.card.specs.Outcome.Outcome.{accepted}
use Rattle.card.specs.Reading.{byte_field, standing_field, k_field, n_field, map_field, word_at, mask_field, read_head, standing_mask, read_masks, read_rows, read_generators}
use Rattle.card.specs.declared.CardRule.TheVariants.{Former}
use Rattle.card.specs.Reading.{touched_by, read_check, read_checks, read_streams, read_fields, read_under}
use Rattle.outcomes.proofs.ReadCards.{bytes_t}
use Rattle.card.specs.Written.{stated, masks_at, rows_of, checks_of, stream_of, streams_of, fields_of, written}
use Rattle.writer.specs.Bench.{W, card_w, stored_w}

-- "a field equal to its default is left out", and no other; a mask that is zero does not stand
forms : (written P ≡ card_p) × (written T ≡ bytes_t) × (written W ≡ card_w)
unfolding up_to checks bytes4 stands map_of layout_masks optional layout_head all_rows layout_rows layout_checks layout_streams layout stated masks_at rows_of checks_of stream_of streams_of fields_of written
forms = (refl, refl, refl)

pub written-P : written P ≡ card_p
written-P = forms.0

pub written-T : written T ≡ bytes_t
written-T = forms.1

pub written-W : written W ≡ card_w
written-W = forms.2

pub read-stored-W : read_under Former stored_w ≡ record { outcome = accepted; card = W }
unfolding sum_below back bit generator count check_mask touches_info touches_by store store_rows store_checks store_streams store_counts card_of byte_field standing_field k_field n_field map_field word_at mask_field read_head standing_mask read_masks read_rows read_generators besides touched_by clashes judge read_check read_checks read_streams read_fields read_under
read-stored-W = refl
