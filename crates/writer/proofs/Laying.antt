-- The layout of a card with one mask, one row, one check or one stream more at the end: what one turn of a loop adds.
use Prim.Native.Nat.{ℕ, zero, suc, ◌+◌, ◌-◌, ◌*◌, ◌/◌, ◌%◌, ◌^◌, ◌≤◌, ◌<◌, min}
use mathlib.Core.Path.{◌≡◌, refl, sym, ap, ap₂, ◌∙◌}
use mathlib.Core.List.{List, [], ◌∷◌, ◌++◌, map, append-nil, append_assoc, map-append}
use native.Mathlib.Nat.{lt_of_lt_of_le, mul-le-mul_right}
use native.Mathlib.Numerals.{add-one}
use native.Mathlib.Omega.{arith}
use lib.ListN.{length, get_or, take, drop, length-append, length-drop}
use lib.Seq.{length-take-le, get_or-drop}
use lib.Pow.{pow_mono, shl_exact}
use lib.Dec.{eqb}
use mathlib.Core.Bool.{not}
use mathlib.Core.Logic.{⊎_elim}
use mir.Val.{bool_byte}
use borrow.Author.Tests.{eq-eqb, ne_eqb}
use Rattle.bits.proofs.Cases.{same_or_not}
use Rattle.std.proofs.lemmas.List.{take_more}
use Rattle.bits.specs.Sums.{up_to}
use Rattle.bits.proofs.Lists.{up_to-length, up_to-more}
use Rattle.card.specs.Fields.{Stream}
use Rattle.code.specs.Limits.{most_checks, check_start}
use Rattle.card.specs.Layout.{stands, map_of, layout_masks, optional, layout_head, all_rows, layout_rows, layout_checks, layout_streams}
use Rattle.card.proofs.LayoutLaws as laws
use Rattle.card.proofs.CardLength.{few-generators}
use Rattle.card.specs.Written.{stated, head_of, masks_at, rows_of, checks_of, stream_of, streams_of}

-- ---- the head
pub head-parts : (number k n m : ℕ) {a b : ℕ} → a ≡ stated 1 k → b ≡ stated 2 n
    → ((a + 2 * b) ∷ []) ++ ((number ∷ []) ++ (optional (stated 1 k) k ++ (optional (stated 2 n) n ++ (m ∷ [])))) ≡ layout_head (head_of number k n m)
unfolding layout_head
head-parts number k n m e q = ap₂ (λ a b. (a + 2 * b) ∷ (number ∷ (optional (stated 1 k) k ++ (optional (stated 2 n) n ++ (m ∷ []))))) e q

-- ---- a map, added up from the lowest digits on
map-placed : (vs ws : List ℕ) {n : ℕ} → length vs ≡ n → n + length ws ≤ 32 → map_of vs + map_of ws * 2 ^ n % 4294967296 ≡ map_of (vs ++ ws)
map-placed vs ws {n} e h =
    ap (λ m. map_of vs + m) (shl_exact {a = map_of ws} (length ws) n 32 (laws.map-lt ws) (omega arith))
    ∙ ap (λ l. map_of vs + map_of ws * 2 ^ l) (sym e)
    ∙ sym (laws.map-append vs ws ∙ (omega arith))

pub map-within : (vs : List ℕ) {p n : ℕ} → length vs ≡ p → p ≤ n → map_of vs < 2 ^ n
map-within vs {n = n} e h = lt_of_lt_of_le (laws.map-lt vs) (pow_mono {i = length vs} {j = n} (omega arith))

-- ---- masks

-- a mask's bit of its map, as the code has it
pub stands-is : (v : ℕ) → bool_byte (not (eqb v 0)) ≡ stands v
unfolding stands
stands-is v = ⊎_elim (λ e. rw (eq-eqb v 0 e)) (λ n. rw (ne_eqb v 0 n)) (same_or_not v 0)

module _ (masks : List ℕ) (j : ℕ) (h : j < length masks) where
  masks-more : take (j + 1) masks ≡ take j masks ++ (get_or masks j 0 ∷ [])
  masks-more = take_more masks j 0 h

  pub masks-next : layout_masks (take j masks) ++ layout_masks (get_or masks j 0 ∷ []) ≡ layout_masks (take (j + 1) masks)
  masks-next = sym (ap layout_masks masks-more ∙ laws.masks-append (take j masks) (get_or masks j 0 ∷ []))

  -- the map of the masks passed, x, with this mask's digit d put at its place
  pub map_next : {x d : ℕ} → length masks ≤ 8 → x ≡ map_of (take j masks) → d ≡ stands (get_or masks j 0)
      → x + d * 2 ^ j % 4294967296 ≡ map_of (take (j + 1) masks)
  unfolding map_of
  map_next few e q =
      let one : stands (get_or masks j 0) ≡ map_of (get_or masks j 0 ∷ []) = omega arith in
      ap₂ (λ m n. m + n * 2 ^ j % 4294967296) e (q ∙ one)
      ∙ map-placed (take j masks) (get_or masks j 0 ∷ []) (length-take-le j masks (omega arith)) (omega arith)
      ∙ sym (ap map_of masks-more)

-- those of p parity streams, as a part of a table
module _ (table : List ℕ) (start : ℕ) where
  pub masks-count : (p : ℕ) → length (masks_at table start p) ≡ p
  unfolding masks_at
  masks-count p = up_to-length p (λ j. get_or table (start + j) 0)

  part : (p : ℕ) → start + p ≤ length table → take p (drop start table) ≡ masks_at table start p
  unfolding up_to masks_at
  part zero h = refl
  part (suc p) h =
      ap (λ (n : ℕ). take n (drop start table)) (sym (add-one p))
      ∙ take_more (drop start table) p 0 (omega (arith, length-drop start table))
      ∙ ap₂ (λ (l : List ℕ) (v : ℕ). l ++ (v ∷ [])) (part p (omega arith)) (get_or-drop start table p 0)

  -- as a slice of n of them
  pub part-is : {n p : ℕ} → n ≡ p → start + p ≤ length table → take (start + n - start) (drop start table) ≡ masks_at table start p
  part-is {n} {p} e h = let m : start + n - start ≡ p = omega arith in ap (λ (n : ℕ). take n (drop start table)) m ∙ part p h

-- ---- the generators of k information streams
all_append : (rows : List (List ℕ)) (vs : List ℕ) → all_rows (rows ++ (vs ∷ [])) ≡ all_rows rows ++ vs
unfolding all_rows
all_append [] vs = append-nil vs
all_append (ws ∷ rows) vs = ap (λ l. ws ++ l) (all_append rows vs) ∙ sym (append_assoc ws (all_rows rows) vs)

module _ (table : List ℕ) (p : ℕ) where
  rows_more : (i : ℕ) → all_rows (rows_of table (i + 1) p) ≡ all_rows (rows_of table i p) ++ masks_at table (i * 8) p
  unfolding rows_of
  rows_more i =
      let row : ℕ → List ℕ = λ n. masks_at table (n * 8) p in
      ap (λ l. all_rows (map row l)) (up_to-more i (λ n. n))
      ∙ ap all_rows (map-append row (up_to i (λ n. n)) (i ∷ []))
      ∙ all_append (map row (up_to i (λ n. n))) (row i)

  pub rows-count : (i : ℕ) → length (all_rows (rows_of table i p)) ≡ i * p
  unfolding up_to all_rows rows_of
  rows-count zero = omega arith
  rows-count (suc i) =
      ap (λ n. length (all_rows (rows_of table n p))) (sym (add-one i))
      ∙ ap length (rows_more i)
      ∙ length-append (all_rows (rows_of table i p)) (masks_at table (i * 8) p)
      ∙ omega (arith, rows-count i, masks-count table (i * 8) p)

  -- the map of the rows passed, x, with this row's map y put at its place
  pub rows-map_next : (i : ℕ) {x y : ℕ} → i * p + p ≤ 32 → x ≡ map_of (all_rows (rows_of table i p)) → y ≡ map_of (masks_at table (i * 8) p)
      → x + y * 2 ^ (i * p) % 4294967296 ≡ map_of (all_rows (rows_of table (i + 1) p))
  rows-map_next i h e q =
      ap₂ (λ m n. m + n * 2 ^ (i * p) % 4294967296) e q
      ∙ map-placed (all_rows (rows_of table i p)) (masks_at table (i * 8) p) (rows-count i) (omega (arith, masks-count table (i * 8) p))
      ∙ sym (ap map_of (rows_more i))

  -- row i has its p generators within those of all
  pub row_within : (i k : ℕ) → i < k → k ≤ 4 → k + p ≤ 8 → i * p + p ≤ 16
  row_within i k l h n = omega (arith, mul-le-mul_right {m = suc i} {n = k} p l, few-generators k p h n)

  pub rows-map_below : (i n : ℕ) → i * p ≤ n → map_of (all_rows (rows_of table i p)) < 2 ^ n
  rows-map_below i n h = map-within (all_rows (rows_of table i p)) (rows-count i) h

  pub rows_next : (i : ℕ)
      → layout_masks (all_rows (rows_of table i p)) ++ layout_masks (masks_at table (i * 8) p) ≡ layout_masks (all_rows (rows_of table (i + 1) p))
  rows_next i = sym (ap layout_masks (rows_more i) ∙ laws.masks-append (all_rows (rows_of table i p)) (masks_at table (i * 8) p))

-- the generator map's two bytes, and the masks
pub rows-parts : (rows : List (List ℕ)) {m : ℕ} → m < 65536 → m ≡ map_of (all_rows rows)
    → (m % 256 ∷ m / 256 % 256 ∷ []) ++ layout_masks (all_rows rows) ≡ layout_rows rows
unfolding layout_rows
rows-parts rows {m} h e =
    let high : m / 256 % 256 ≡ m / 256 = omega arith in
    ap (λ n. m % 256 ∷ (n ∷ layout_masks (all_rows rows))) high
    ∙ ap (λ m. m % 256 ∷ (m / 256 ∷ layout_masks (all_rows rows))) e

-- ---- the checks of an information stream
pub check-parts : (vs : List ℕ) {m : ℕ} → m ≡ map_of vs → (m ∷ []) ++ layout_masks vs ≡ layout_checks (vs ∷ [])
unfolding layout_checks
check-parts vs e = ap₂ (λ m l. m ∷ l) e (sym (append-nil (layout_masks vs)))

checks-append : (checks more : List (List ℕ)) → layout_checks (checks ++ more) ≡ layout_checks checks ++ layout_checks more
unfolding layout_checks
checks-append [] more = refl
checks-append (vs ∷ checks) more =
    ap (λ l. map_of vs ∷ (layout_masks vs ++ l)) (checks-append checks more)
    ∙ ap (λ l. map_of vs ∷ l) (sym (append_assoc (layout_masks vs) (layout_checks checks) (layout_checks more)))

pub checks-next : (checks : List ℕ) (i p q : ℕ)
    → layout_checks (checks_of checks i q p) ++ layout_checks (masks_at checks (check_start i q) p ∷ []) ≡ layout_checks (checks_of checks i (q + 1) p)
unfolding checks_of
checks-next checks i p q =
    let at : ℕ → List ℕ = λ n. masks_at checks (check_start i n) p in
    sym
    (ap (λ l. layout_checks (map at l)) (up_to-more q (λ n. n))
    ∙ ap layout_checks (map-append at (up_to q (λ n. n)) (q ∷ []))
    ∙ checks-append (map at (up_to q (λ n. n))) (at q ∷ []))

-- ---- the information streams
streams-append : (streams more : List Stream) → layout_streams (streams ++ more) ≡ layout_streams streams ++ layout_streams more
unfolding layout_streams
streams-append [] more = refl
streams-append (s ∷ streams) more =
    ap (λ l. s.count ∷ (layout_checks s.checks ++ l)) (streams-append streams more)
    ∙ ap (λ l. s.count ∷ l) (sym (append_assoc (layout_checks s.checks) (layout_streams streams) (layout_streams more)))

pub stream-parts : (checks : List ℕ) (i count p : ℕ)
    → (count ∷ []) ++ layout_checks (checks_of checks i count p) ≡ layout_streams (stream_of checks i count p ∷ [])
unfolding layout_streams stream_of
stream-parts checks i count p = ap (λ l. count ∷ l) (sym (append-nil (layout_checks (checks_of checks i count p))))

pub streams-next : (counts checks : List ℕ) (p i : ℕ) {count : ℕ} → count ≡ min (get_or counts i 0) most_checks
    → layout_streams (streams_of counts checks i p) ++ layout_streams (stream_of checks i count p ∷ []) ≡ layout_streams (streams_of counts checks (i + 1) p)
unfolding streams_of
streams-next counts checks p i e =
    let at : ℕ → Stream = λ n. stream_of checks n (min (get_or counts n 0) most_checks) p in
    ap (λ n. layout_streams (map at (up_to i (λ n. n))) ++ layout_streams (stream_of checks i n p ∷ [])) e
    ∙ sym
    (ap (λ l. layout_streams (map at l)) (up_to-more i (λ n. n))
    ∙ ap layout_streams (map-append at (up_to i (λ n. n)) (i ∷ []))
    ∙ streams-append (map at (up_to i (λ n. n))) (at i ∷ []))
