-- What cards of the bench are read as, by computing.
use mathlib.Core.Path.{◌≡◌, refl}
use mathlib.Core.List.{List, [], ◌∷◌}
use Prim.Native.Nat.{ℕ}
use lib.ListN.{take}
use Rattle.bits.specs.Sums.{sum_below, back}
use Rattle.bits.specs.Digits.{bit}
use Rattle.code.specs.Bench.{s, P, T, Wide}
use Rattle.code.specs.Code.{generator}
use Rattle.code.specs.Checks.{count, check_mask, touches_info, touches_by, besides}
use Rattle.code.specs.Judging.{clashes, judge}
use Rattle.card.specs.Bench.{checks, card_p, stored_p, card_t, card_wide}
use Rattle.card.specs.Fields.{store, store_rows, store_checks, store_streams, store_counts, card_of}
use Rattle.card.specs.Outcome.Outcome.{accepted, refused}
use Rattle.card.specs.Reading.{byte_field, standing_field, k_field, n_field, map_field, word_at, mask_field, read_head, standing_mask, read_masks, read_rows, read_generators}
use Rattle.card.specs.Reading.{touched_by, read_check, read_checks, read_streams, read_fields, read_under, read_card}
use Rattle.card.specs.declared.CardRule.{CardRule}
use Rattle.card.specs.declared.CardRule.TheVariants.{Former, Present}

-- T as the document has it, and with s0, s2 for stream 1
abbrev pub bytes_t : List ℕ
bytes_t = card_t (s 0 ∷ s 1 ∷ []) (s 0 ∷ s 2 ∷ [])

abbrev pub wrong_t : List ℕ
wrong_t = card_t (s 0 ∷ s 2 ∷ []) (s 0 ∷ s 2 ∷ [])

computed : (read_card card_p ≡ record { outcome = accepted; card = P }) × ((read_card (take 19 card_p)).outcome ≡ refused 1 19)
    × (read_card bytes_t ≡ record { outcome = accepted; card = T }) × ((read_card wrong_t).outcome ≡ refused 8 21) × ((read_under Former wrong_t).outcome ≡ refused 8 21)
    × (read_under Former stored_p ≡ record { outcome = accepted; card = P }) × ((read_card stored_p).outcome ≡ refused 18 2)
    × ((read_under Former (take 19 card_p)).outcome ≡ refused 1 19) × (read_card card_wide ≡ record { outcome = accepted; card = Wide })
unfolding sum_below back bit generator count check_mask touches_info touches_by store store_rows store_checks store_streams store_counts card_of byte_field standing_field k_field n_field map_field word_at mask_field read_head standing_mask read_masks read_rows read_generators besides touched_by clashes judge read_check read_checks read_streams read_fields read_under checks
computed = (refl, refl, refl, refl, refl, refl, refl, refl, refl)

pub read-P : read_card card_p ≡ record { outcome = accepted; card = P }
read-P = computed.0

pub read-short-P : (read_card (take 19 card_p)).outcome ≡ refused 1 19
read-short-P = computed.1

pub read-T : read_card bytes_t ≡ record { outcome = accepted; card = T }
read-T = computed.2

pub read-wrong-T : (rule : CardRule) → (read_under rule wrong_t).outcome ≡ refused 8 21
read-wrong-T Present = computed.3
read-wrong-T Former = computed.4

pub read-stored-P : read_under Former stored_p ≡ record { outcome = accepted; card = P }
read-stored-P = computed.5

pub read-stated-P : (read_card stored_p).outcome ≡ refused 18 2
read-stated-P = computed.6

pub read-stored-short-P : (read_under Former (take 19 card_p)).outcome ≡ refused 1 19
read-stored-short-P = computed.7

pub read-Wide : read_card card_wide ≡ record { outcome = accepted; card = Wide }
read-Wide = computed.8
