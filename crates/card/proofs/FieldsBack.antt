-- A card that fields within the limits state gives these fields back, all but its defaults.
use Prim.Native.Nat.{ℕ, zero, suc, ◌+◌, ◌-◌, ◌*◌, ◌<◌, min}
use mathlib.Core.Path.{◌≡◌, refl, sym, ap, ◌∙◌}
use mathlib.Core.List.{List, [], ◌∷◌, map}
use native.Mathlib.Omega.{arith}
use lib.ListN.{length, get_or, length-map, get_or-map}
use lib.Seq.{ext_get_or}
use Rattle.bits.specs.Sums.{up_to}
use Rattle.bits.proofs.Lists.{up_to-length, up_to-at}
use Rattle.code.specs.Limits.{most_checks, check_start}
use Rattle.code.specs.Checks.{count, check_mask}
use Rattle.card.specs.Fields.{Fields, card_of}
use Rattle.card.specs.Layout.{MasksIn, StreamIn, InRanges}
use Rattle.card.proofs.Stores.{empty_stream, masks-in-list, stream-in-list}
use Rattle.card.proofs.CardTables.{stream_of, generator-stated, count-stated, mask-stated}
use Rattle.card.specs.Written.{head_of, masks_at, rows_of, checks_of, streams_of, k_of, fields_of}
use Rattle.card.specs.Written as written

-- ---- lists of things that a function of the place gives
module _ {A : Type 0} where
  -- which default is irrelevant at a place of the list
  any-default : (xs : List A) (i : ℕ) (a b : A) → i < length xs → get_or xs i a ≡ get_or xs i b
  any-default [] i a b h = absurd (omega arith)
  any-default (x ∷ xs) zero a b h = refl
  any-default (x ∷ xs) (suc i) a b h = any-default xs i a b (omega arith)

  listed : (g : ℕ → A) (xs : List A) (d : A) (n : ℕ) → length xs ≡ n → ((i : ℕ) → i < n → g i ≡ get_or xs i d) → map g (up_to n (λ i. i)) ≡ xs
  listed g xs d n l h = ext_get_or (g 0) (map g (up_to n (λ i. i))) xs (long ∙ sym l) at
    where
      long : length (map g (up_to n (λ i. i))) ≡ n
      long = length-map (up_to n (λ i. i)) g ∙ up_to-length n (λ i. i)

      at : (i : ℕ) → i < length (map g (up_to n (λ i. i))) → get_or (map g (up_to n (λ i. i))) i (g 0) ≡ get_or xs i (g 0)
      at i b =
          let k : i < n = omega (arith, long) in
          get_or-map g (up_to n (λ i. i)) i 0 ∙ ap g (up_to-at n (λ i. i) i k) ∙ h i k ∙ any-default xs i d (g 0) (omega arith)

-- ---- masks
masks-back : (p m : ℕ) (vs : List ℕ) → MasksIn p m vs → (g : ℕ → ℕ) → ((j : ℕ) → j < p → g j ≡ get_or vs j 0) → up_to p g ≡ vs
masks-back p m vs a g h = ext_get_or 0 (up_to p g) vs (up_to-length p g ∙ sym a.many) at
  where
    at : (j : ℕ) → j < length (up_to p g) → get_or (up_to p g) j 0 ≡ get_or vs j 0
    at j b = let k : j < p = omega (arith, up_to-length p g) in up_to-at p g j k ∙ h j k

-- ---- the fields

-- the same fields, with no default stated
abbrev pub without_defaults : Fields → Fields
without_defaults f = record { head = head_of f.head.number f.head.k f.head.n f.head.m; rows = f.rows; streams = f.streams }

module _ (f : Fields) (w : InRanges f) where
  abbrev p : ℕ
  p = f.head.n - f.head.k

  rows_back : rows_of (card_of f).generators f.head.k p ≡ f.rows
  unfolding rows_of masks_at
  rows_back =
      listed (λ i. up_to p (λ j. get_or (card_of f).generators (i * 8 + j) 0)) f.rows [] f.head.k w.row_count
      (λ i h.
      masks-back p f.head.m (get_or f.rows i []) (masks-in-list p f.head.m f.rows w.rows_in i (omega (arith, w.row_count)))
      (λ j. get_or (card_of f).generators (i * 8 + j) 0)
      (λ j b. generator-stated f w i j (omega (arith, w.n_most))))

  module _ (i : ℕ) (h : i < f.head.k) where
    in-limits : StreamIn p f.head.m (stream_of f i)
    in-limits = stream-in-list p f.head.m f.streams w.streams_in i (omega (arith, w.stream_count))

    count-back : min (get_or (card_of f).counts i 0) most_checks ≡ (stream_of f i).count
    unfolding count
    count-back = omega (arith, count-stated f w i, in-limits.j_most)

    checks-back : checks_of (card_of f).checks i (stream_of f i).count p ≡ (stream_of f i).checks
    unfolding checks_of masks_at check_mask
    checks-back =
        listed (λ q. up_to p (λ j. get_or (card_of f).checks (check_start i q + j) 0)) (stream_of f i).checks [] (stream_of f i).count in-limits.many
        (λ q b.
        masks-back p f.head.m (get_or (stream_of f i).checks q [])
        (masks-in-list p f.head.m (stream_of f i).checks in-limits.masks q (omega (arith, in-limits.many)))
        (λ j. get_or (card_of f).checks (check_start i q + j) 0)
        (λ j k. mask-stated f w i q j (omega (arith, in-limits.j_most)) (omega (arith, w.n_most))))

    stream-back : written.stream_of (card_of f).checks i (min (get_or (card_of f).counts i 0) most_checks) p ≡ stream_of f i
    unfolding written.stream_of
    stream-back =
        ap (λ (J : ℕ). written.stream_of (card_of f).checks i J p) count-back
        ∙ ap (λ (checks : List (List ℕ)). record { count = (stream_of f i).count; checks = checks }) checks-back

  streams-back : streams_of (card_of f).counts (card_of f).checks f.head.k p ≡ f.streams
  unfolding streams_of
  streams-back =
      listed (λ i. written.stream_of (card_of f).checks i (min (get_or (card_of f).counts i 0) most_checks) p) f.streams empty_stream f.head.k w.stream_count stream-back

  k-back : k_of (card_of f) ≡ f.head.k
  unfolding card_of
  k-back = omega (arith, w.k_most)

  p_back : min (card_of f).p (8 - f.head.k) ≡ p
  unfolding card_of
  p_back = omega (arith, w.n_most)

  n-back : f.head.k + p ≡ f.head.n
  n-back = omega (arith, w.n_least)

  number-back : (card_of f).number ≡ f.head.number
  unfolding card_of
  number-back = refl

  m-back : min (card_of f).m 31 ≡ f.head.m
  unfolding card_of
  m-back = omega (arith, w.m_most)

  pub fields_back : fields_of (card_of f) ≡ without_defaults f
  unfolding fields_of
  fields_back = rw (number-back, k-back, p_back, n-back, m-back, rows_back, streams-back)
