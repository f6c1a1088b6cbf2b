-- Reading a card front to back; the first fault stops it. Document 01, "The card" and "Refused because of the input", 1 to 10; document 02, R-4,
-- 18.
-- A refusal is given by its number and byte offset. "A field cut short comes before its value": each field is tested for its end first.
-- Assumes nothing.
use Rattle.std.specs.Prelude.{ℕ, zero, suc, ◌+◌, ◌-◌, ◌*◌, ◌/◌, ◌%◌, ◌^◌, cond, List, [], ◌∷◌, length, get_or, leb, ltb, eqb}
use Rattle.code.specs.Limits.{most_checks}
use Rattle.card.specs.Outcome.{CardOutcome}
use Rattle.card.specs.Outcome.Outcome.{accepted, refused}
use Rattle.code.specs.Checks.{touches_by}
use Rattle.code.specs.Judging.{judge}
use Rattle.card.specs.Fields.{Head, Stream, Fields, empty_card, code_of, card_of}
use Rattle.code.specs.declared.Card.{Card}
use Rattle.card.specs.declared.CardRule.{CardRule}
use Rattle.card.specs.declared.CardRule.TheVariants.{Former, Present}

-- ---- what reading gives

-- one field: its value, or the refusal's number and offset
pub data Field : Type 0 where
  value : ℕ → Field
  bad : ℕ → ℕ → Field

-- a part of the card: what was read and the offset after it, or the refusal's number and offset
pub data Read (A : Type 0) : Type 0 where
  got : A → ℕ → Read A
  fault : ℕ → ℕ → Read A

-- go on with the value of a field, or with what was read
abbrev pub field : {B : Type 0} → Field → (ℕ → Read B) → Read B
field (value v) f = f v
field (bad n o) f = fault n o

abbrev pub next : {A B : Type 0} → Read A → (A → ℕ → Read B) → Read B
next (got a at) f = f a at
next (fault n o) f = fault n o

-- what was read, changed by f
abbrev pub read_mapped : {A B : Type 0} → (A → B) → Read A → Read B
read_mapped f (got a at) = got (f a) at
read_mapped f (fault n o) = fault n o

-- ---- the fields

-- a one-byte field: cut short 1, outside low to high the number given
unfoldable pub byte_field : List ℕ → ℕ → ℕ → ℕ → ℕ → Field
byte_field bs at low high number =
    cond (ltb at (length bs))
    (cond (leb low (get_or bs at 0)) (cond (leb (get_or bs at 0) high) (value (get_or bs at 0)) (bad number at)) (bad number at))
    (bad 1 (length bs))

-- a field that stands, read at an offset: by the former rule as it is; from R-4 on "Card reading refuses such a field with 18 at the field's offset,
-- directly after the field's own range is found good"
unfoldable pub standing_field : CardRule → ℕ → ℕ → Field → Field
standing_field Former default at f = f
standing_field Present default at (bad n o) = bad n o
standing_field Present default at (value v) = cond (eqb v default) (bad 18 at) (value v)

-- k: 1 to 4, else 2; where it does not stand, 1
unfoldable pub k_field : CardRule → List ℕ → ℕ → Field
k_field rule bs stands = cond (eqb stands 1) (standing_field rule 1 2 (byte_field bs 2 1 4 2)) (value 1)

-- n: k + 1 to 8, else 3; where it does not stand, 2, tested directly after k, offset 0
unfoldable pub n_field : CardRule → List ℕ → ℕ → ℕ → ℕ → Field
n_field rule bs at stands k =
    cond (eqb stands 1) (standing_field rule 2 at (byte_field bs at (k + 1) 8 3)) (cond (leb (k + 1) 2) (value 2) (bad 3 0))

-- the generator map, two bytes, of k × p bits: cut short 1, a bit beyond them 5
unfoldable pub map_field : List ℕ → ℕ → ℕ → Field
map_field bs at count =
    let map : ℕ = get_or bs at 0 + get_or bs (at + 1) 0 * 256 in
    cond (leb (at + 2) (length bs)) (cond (eqb (map / 2 ^ count) 0) (value map) (bad 5 at)) (bad 1 (length bs))

-- the number of the four bytes from an offset on, the lowest first
unfoldable pub word_at : List ℕ → ℕ → ℕ
word_at bs at = get_or bs at 0 + get_or bs (at + 1) 0 * 256 + get_or bs (at + 2) 0 * 65536 + get_or bs (at + 3) 0 * 16777216

-- a standing mask: cut short 1; zero, or a bit above m, 6
unfoldable pub mask_field : List ℕ → ℕ → ℕ → Field
mask_field bs at m =
    cond (leb (at + 4) (length bs))
    (cond (eqb (word_at bs at) 0) (bad 6 at) (cond (leb (word_at bs at / 2 ^ m) 1) (value (word_at bs at)) (bad 6 at)))
    (bad 1 (length bs))

-- ---- the head and the generators

-- byte 0, with one of bits 2 to 7 set 5; the card number; k, n, if they stand; m, above 31 4
unfoldable pub read_head : CardRule → List ℕ → Read Head
read_head rule bs =
    field (byte_field bs 0 0 3 5) λ map.
    field (byte_field bs 1 0 255 1) λ number.
    field (k_field rule bs (map % 2)) λ k.
    field (n_field rule bs (2 + map % 2) (map / 2) k) λ n.
    field (byte_field bs (2 + map % 2 + map / 2) 0 31 4) λ m.
    got (record { k_stands = map % 2; n_stands = map / 2; number = number; k = k; n = n; m = m }) (2 + map % 2 + map / 2 + 1)

-- a mask where its bit of the map stands, else zero
unfoldable pub standing_mask : List ℕ → ℕ → ℕ → ℕ → Field
standing_mask bs at m stands = cond (eqb stands 1) (mask_field bs at m) (value 0)

-- for each bit of the map, the lowest first, its mask
unfoldable pub read_masks : List ℕ → ℕ → ℕ → ℕ → ℕ → Read (List ℕ)
read_masks bs m zero map at = got [] at
read_masks bs m (suc left) map at =
    field (standing_mask bs at m (map % 2)) λ v. read_mapped (λ vs. v ∷ vs) (read_masks bs m left (map / 2) (at + map % 2 * 4))

-- the generators, p masks for each information stream
unfoldable pub read_rows : List ℕ → ℕ → ℕ → ℕ → ℕ → ℕ → Read (List (List ℕ))
read_rows bs m p zero map at = got [] at
read_rows bs m p (suc left) map at =
    next (read_masks bs m p map at) λ vs after. read_mapped (λ rows. vs ∷ rows) (read_rows bs m p left (map / 2 ^ p) after)

unfoldable pub read_generators : List ℕ → ℕ → ℕ → ℕ → ℕ → Read (List (List ℕ))
read_generators bs at k p m = field (map_field bs at (k * p)) λ map. read_rows bs m p k map (at + 2)

-- ---- the checks. c has the code, `earlier` the masks of the checks of the stream that were read before

-- a check's mask of parity stream j
abbrev pub mask_at : List ℕ → ℕ → ℕ
mask_at vs j = get_or vs j 0

-- how many of the checks touch the error (b, s)
unfoldable pub touched_by : Card → List (List ℕ) → ℕ → ℕ → ℕ
touched_by c [] b s = 0
touched_by c (vs ∷ checks) b s = touches_by c (mask_at vs) b s + touched_by c checks b s

-- the refusal of a whole check after the earlier ones of its stream, 0 for none
abbrev pub judge_after : Card → ℕ → List (List ℕ) → List ℕ → ℕ
judge_after c i earlier vs = judge c i (mask_at vs) (touched_by c earlier)

-- a judged check, with the offset of its map byte
abbrev pub judged : List ℕ → ℕ → ℕ → ℕ → Read (List ℕ)
judged vs place at number = cond (eqb number 0) (got vs at) (fault number place)

-- a check of stream i: its map, with a bit beyond the p parity streams 5, and its masks
unfoldable pub read_check : List ℕ → Card → ℕ → List (List ℕ) → ℕ → Read (List ℕ)
read_check bs c i earlier at =
    field (byte_field bs at 0 (2 ^ c.p - 1) 5) λ map.
    next (read_masks bs c.m c.p map (at + 1)) λ vs after.
    judged vs at after (judge_after c i earlier vs)

unfoldable pub read_checks : List ℕ → Card → ℕ → ℕ → List (List ℕ) → ℕ → Read (List (List ℕ))
read_checks bs c i zero earlier at = got [] at
read_checks bs c i (suc left) earlier at =
    next (read_check bs c i earlier at) λ vs after. read_mapped (λ checks. vs ∷ checks) (read_checks bs c i left (vs ∷ earlier) after)

-- for each information stream from i on J, outside 1 to the most 7, and its checks
unfoldable pub read_streams : List ℕ → Card → ℕ → ℕ → ℕ → Read (List Stream)
read_streams bs c zero i at = got [] at
read_streams bs c (suc left) i at =
    field (byte_field bs at 1 most_checks 7) λ count.
    next (read_checks bs c i count [] (at + 1)) λ checks after.
    read_mapped (λ streams. record { count = count; checks = checks } ∷ streams) (read_streams bs c left (i + 1) after)

-- ---- the card

-- bytes after the last check: 10
abbrev pub ended : List ℕ → ℕ → Fields → Read Fields
ended bs at fields = cond (ltb at (length bs)) (fault 10 at) (got fields at)

unfoldable pub read_fields : CardRule → List ℕ → Read Fields
read_fields rule bs =
    next (read_head rule bs) λ h at.
    next (read_generators bs at h.k (h.n - h.k) h.m) λ rows at₁.
    next (read_streams bs (code_of h rows) h.k 0 at₁) λ streams at₂.
    ended bs at₂ (record { head = h; rows = rows; streams = streams })

-- a refused card is the empty one
abbrev pub refused_card : ℕ → ℕ → CardOutcome
refused_card number offset = record { outcome = refused number offset; card = empty_card }

abbrev pub answer : Read Fields → CardOutcome
answer (got f at) = record { outcome = accepted; card = card_of f }
answer (fault n o) = refused_card n o

-- what reading a card comes to under a rule
unfoldable pub read_under : CardRule → List ℕ → CardOutcome
read_under rule bs = answer (read_fields rule bs)

-- .. and from R-4 on, for everything but cards that were stored before
abbrev pub read_card : List ℕ → CardOutcome
read_card bs = read_under Present bs
