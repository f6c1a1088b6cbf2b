-- The standard cards: their lengths and readings, by computing over all of them, and that each is acceptable.
use Prim.Native.Nat.{ℕ, ◌+◌, ◌-◌, ◌*◌, ◌≤◌}
use mathlib.Core.Path.{◌≡◌, refl, sym, ap, subst, ◌∙◌}
use mathlib.Core.List.{List}
use native.Mathlib.Omega.{arith}
use lib.ListN.{length, take, drop}
use Rattle.bits.specs.Sums.{sum_below, back}
use Rattle.bits.specs.Digits.{bit}
use Rattle.code.specs.Code.{generator}
use Rattle.code.specs.Checks.{touches_info, touches_by, besides}
use Rattle.code.specs.Judging.{clashes, judge}
use Rattle.card.specs.Fields.{Fields, store, store_rows}
use Rattle.card.specs.Layout.{bytes4, stands, map_of, layout_masks, optional, layout_head, all_rows, layout_rows, layout_checks, layout_streams, layout, Acceptable}
use Rattle.card.specs.Reading.{byte_field, standing_field, k_field, n_field, map_field, word_at, mask_field, read_head, standing_mask, read_masks, read_rows, read_generators}
use Rattle.card.specs.Reading.{touched_by, read_check, read_checks, read_streams, read_fields}
use Rattle.card.specs.Reading.Read.{got}
use Rattle.card.specs.Written.{stated}
use Rattle.card.specs.declared.CardRule.TheVariants.{Present}
use Rattle.card.proofs.Acceptance.{read-acceptable}
use Rattle.standard.specs.SelfOrthogonal.{last_of, mask_of, fields_by}
use Rattle.standard.specs.Standard.{standard_fields, standard_card, StandardCards}
use Rattle.standard.proofs.Terms.{terms, terms_are}
use Rattle.standard.proofs.Entries.{listed, each}

-- ---- the cards of these terms, all six at once
abbrev fields_of : ℕ → Fields
fields_of J = fields_by (take J terms)

abbrev bytes_of : ℕ → List ℕ
bytes_of J = layout (fields_of J)

-- how many bytes a card has
abbrev size : ℕ → ℕ
size J = 10 + 5 * J

read_all : listed (λ i. read_fields Present (bytes_of (2 + i))) 6 ≡ listed (λ i. got (fields_of (2 + i)) (size (2 + i))) 6
unfolding sum_below back bit generator touches_info touches_by besides clashes judge store store_rows stated last_of mask_of fields_by bytes4 stands map_of layout_masks optional layout_head all_rows layout_rows layout_checks layout_streams layout byte_field standing_field k_field n_field map_field word_at mask_field read_head standing_mask read_masks read_rows read_generators touched_by read_check read_checks read_streams read_fields
read_all = refl

sizes : listed (λ i. length (bytes_of (2 + i))) 6 ≡ listed (λ i. size (2 + i)) 6
unfolding stated last_of mask_of fields_by bytes4 stands map_of layout_masks optional layout_head all_rows layout_rows layout_checks layout_streams layout
sizes = refl

-- ---- what the promise says of them
length_is : (J : ℕ) → 2 ≤ J → J ≤ 7 → length (standard_card J) ≡ size J
unfolding standard_card standard_fields
length_is J least most =
    ap (λ (t : List ℕ). length (layout (fields_by (take J t)))) terms_are
    ∙ each 6 (λ j. length (bytes_of j)) size sizes J least (omega arith)

acceptable : (J : ℕ) → 2 ≤ J → J ≤ 7 → Acceptable Present (standard_card J) (standard_fields J)
unfolding standard_card standard_fields
acceptable J least most =
    subst (λ (t : List ℕ). Acceptable Present (layout (fields_by (take J t))) (fields_by (take J t))) (sym terms_are)
    (read-acceptable Present (bytes_of J) (fields_of J) (size J)
    (each 6 (λ j. read_fields Present (bytes_of j)) (λ j. got (fields_of j) (size j)) read_all J least (omega arith))
    refl)

pub standard-cards : StandardCards
standard-cards = record { terms_are = terms_are; acceptable = acceptable; length_is = length_is }

-- ---- a table of them, in rows of 45 bytes
module _ (table : List ℕ) where
  abbrev start : ℕ → ℕ
  start J = (J - 2) * 45

  abbrev entry : ℕ → List ℕ
  entry J = take (start J + 10 + 5 * J - start J) (drop (start J) table)

  -- the test over the whole table, for the one who has it
  pub entry-is : listed (λ i. entry (2 + i)) 6 ≡ listed (λ i. bytes_of (2 + i)) 6 → (J : ℕ) → 2 ≤ J → J ≤ 7 → entry J ≡ standard_card J
  unfolding standard_card standard_fields
  entry-is e J least most = each 6 entry bytes_of e J least (omega arith) ∙ ap (λ (t : List ℕ). layout (fields_by (take J t))) (sym terms_are)
