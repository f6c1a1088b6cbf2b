-- The bytes of a card within the limits, said without reading: document 01, "The card", and "It is within the limits if its bytes are the fields
-- of 'The card' and nothing more, each, stated or default, in the range that 2 to 7 name"; document 02, R-4, "a stated default lies outside the
-- limits for cards brought by a site".
-- Assumes nothing.
use Rattle.std.specs.Prelude.{ℕ, ◌+◌, ◌-◌, ◌*◌, ◌/◌, ◌%◌, ◌^◌, ◌≤◌, ◌<◌, ◌≡◌, cond, List, [], ◌∷◌, ◌++◌, length, get_or, eqb}
use Rattle.code.specs.Limits.{most_checks}
use Rattle.code.specs.Checks.{Orthogonal}
use Rattle.card.specs.Fields.{Head, Stream, Fields, card_of}
use Rattle.card.specs.declared.CardRule.{CardRule}
use Rattle.card.specs.declared.CardRule.TheVariants.{Former, Present}

-- ---- the bytes

-- the four bytes of a mask, the lowest first
unfoldable pub bytes4 : ℕ → List ℕ
bytes4 v = v % 256 ∷ v / 256 % 256 ∷ v / 65536 % 256 ∷ v / 16777216 % 256 ∷ []

-- a mask's bit of its map: a mask stands unless it is zero
unfoldable pub stands : ℕ → ℕ
stands v = cond (eqb v 0) 0 1

-- the map of some masks, the first at bit 0
unfoldable pub map_of : List ℕ → ℕ
map_of [] = 0
map_of (v ∷ vs) = stands v + 2 * map_of vs

-- the masks that stand, in rising order
unfoldable pub layout_masks : List ℕ → List ℕ
layout_masks [] = []
layout_masks (v ∷ vs) = cond (eqb v 0) [] (bytes4 v) ++ layout_masks vs

-- a field that may stand
unfoldable pub optional : ℕ → ℕ → List ℕ
optional bit v = cond (eqb bit 1) (v ∷ []) []

-- byte 0; card number; k and n, if they stand; m
unfoldable pub layout_head : Head → List ℕ
layout_head h =
    (h.k_stands + 2 * h.n_stands) ∷ (h.number ∷ (optional h.k_stands h.k ++ (optional h.n_stands h.n ++ (h.m ∷ []))))

-- the masks of all information streams in one list: bit (i - 1) × p + (j - 1)
unfoldable pub all_rows : List (List ℕ) → List ℕ
all_rows [] = []
all_rows (vs ∷ rows) = vs ++ all_rows rows

-- the generator map, two bytes, and the masks
unfoldable pub layout_rows : List (List ℕ) → List ℕ
layout_rows rows = map_of (all_rows rows) % 256 ∷ (map_of (all_rows rows) / 256 ∷ layout_masks (all_rows rows))

-- a check: its map byte and the masks
unfoldable pub layout_checks : List (List ℕ) → List ℕ
layout_checks [] = []
layout_checks (vs ∷ checks) = map_of vs ∷ (layout_masks vs ++ layout_checks checks)

-- for each information stream J and its checks
unfoldable pub layout_streams : List Stream → List ℕ
layout_streams [] = []
layout_streams (s ∷ streams) = s.count ∷ (layout_checks s.checks ++ layout_streams streams)

unfoldable pub layout : Fields → List ℕ
layout f = layout_head f.head ++ (layout_rows f.rows ++ layout_streams f.streams)

-- ---- the limits

-- p masks with no bit above m
pub record MasksIn (p m : ℕ) (vs : List ℕ) : Type 0 where
  pub many : length vs ≡ p
  pub within : (j : ℕ) → get_or vs j 0 < 2 ^ (m + 1)

abbrev pub AllMasksIn : ℕ → ℕ → List (List ℕ) → Type 0
AllMasksIn p m [] = Unit {0}
AllMasksIn p m (vs ∷ rest) = MasksIn p m vs × AllMasksIn p m rest

-- J checks, at least one and not more than the most
pub record StreamIn (p m : ℕ) (s : Stream) : Type 0 where
  pub many : length s.checks ≡ s.count
  pub j_least : 1 ≤ s.count
  pub j_most : s.count ≤ most_checks
  pub masks : AllMasksIn p m s.checks

abbrev pub AllStreamsIn : ℕ → ℕ → List Stream → Type 0
AllStreamsIn p m [] = Unit {0}
AllStreamsIn p m (s ∷ rest) = StreamIn p m s × AllStreamsIn p m rest

-- each field, stated or default, in its range
pub record InRanges (f : Fields) : Type 0 where
  pub k_stands_bit : f.head.k_stands ≤ 1
  pub n_stands_bit : f.head.n_stands ≤ 1
  pub number_most : f.head.number ≤ 255
  pub k_least : 1 ≤ f.head.k
  pub k_most : f.head.k ≤ 4
  pub k_default : f.head.k_stands ≡ 0 → f.head.k ≡ 1
  pub n_least : f.head.k + 1 ≤ f.head.n
  pub n_most : f.head.n ≤ 8
  pub n_default : f.head.n_stands ≡ 0 → f.head.n ≡ 2
  pub m_most : f.head.m ≤ 31
  pub row_count : length f.rows ≡ f.head.k
  pub rows_in : AllMasksIn (f.head.n - f.head.k) f.head.m f.rows
  pub stream_count : length f.streams ≡ f.head.k
  pub streams_in : AllStreamsIn (f.head.n - f.head.k) f.head.m f.streams

-- no field that stands is equal to its default: 1 for k, 2 for n
pub record StatesNoDefault (f : Fields) : Type 0 where
  pub k_left_out : f.head.k ≡ 1 → f.head.k_stands ≡ 0
  pub n_left_out : f.head.n ≡ 2 → f.head.n_stands ≡ 0

-- what a rule demands of the defaults: the former one nothing
abbrev pub DefaultsIn : CardRule → Fields → Type 0
DefaultsIn Former f = Unit {0}
DefaultsIn Present f = StatesNoDefault f

-- within the limits: in the ranges, and what the rule demands of the defaults
pub record InLimits (rule : CardRule) (f : Fields) : Type 0 where
  pub ranges : InRanges f
  pub defaults : DefaultsIn rule f

-- document 02, R-13, "No accepted card is then longer than 755 bytes": k 4 and n 8 stand, all sixteen generators, and for each stream J and the most checks,
-- of four masks each
abbrev pub longest_card : ℕ
longest_card = 5 + (2 + 4 * 16) + 4 * (1 + most_checks * (1 + 4 * 4))

-- the checks of every information stream are orthogonal
abbrev pub TrulyOrthogonal : Fields → Type 0
TrulyOrthogonal f = (i : ℕ) → i < f.head.k → Orthogonal (card_of f) i

-- the bytes are a card within the limits whose checks are truly orthogonal, and these are its fields
pub record Acceptable (rule : CardRule) (bytes : List ℕ) (f : Fields) : Type 0 where
  pub limits : InLimits rule f
  pub orthogonal : TrulyOrthogonal f
  pub bytes_are : bytes ≡ layout f
