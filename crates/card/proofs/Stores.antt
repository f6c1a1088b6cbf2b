-- What stands where in the tables of a card: at each place what the fields state for it, and zero where they state nothing.
use Prim.Native.Nat.{ℕ, zero, suc, ◌+◌, ◌-◌, ◌*◌, ◌≤◌, ◌<◌}
use mathlib.Core.Path.{◌≡◌, refl, ap, ◌∙◌}
use mathlib.Core.List.{List, [], ◌∷◌}
use native.Mathlib.Omega.{arith}
use lib.ListN.{length, get_or, set, replicate, length-set, get_or-eq_default}
use lib.Seq.{get_or-set_same, get_or-set_other}
use Rattle.bits.proofs.Lists.{zeros-at, at_places}
use Rattle.code.specs.Limits.{most_checks, check_stride, check_words, check_start}
use Rattle.card.specs.Fields.{Stream, store, store_rows, store_checks, store_streams, store_counts}
use Rattle.card.specs.Layout.{MasksIn, AllMasksIn, StreamIn, AllStreamsIn}

-- ---- lists of masks and of streams, at a place

-- beyond the streams of a card
abbrev pub empty_stream : Stream
empty_stream = record { count = 0; checks = [] }

module _ (p m : ℕ) where
  pub masks-in-list : (lists : List (List ℕ)) → AllMasksIn p m lists → (i : ℕ) → i < length lists → MasksIn p m (get_or lists i [])
  masks-in-list = at_places (MasksIn p m) (AllMasksIn p m) [] (λ vs lists a. a)

  pub stream-in-list : (streams : List Stream) → AllStreamsIn p m streams → (i : ℕ) → i < length streams → StreamIn p m (get_or streams i empty_stream)
  stream-in-list = at_places (StreamIn p m) (AllStreamsIn p m) empty_stream (λ s streams a. a)

-- ---- tables

-- a table is zero from a place on
abbrev pub ZeroFrom : ℕ → List ℕ → Type 0
ZeroFrom at table = (n : ℕ) → at ≤ n → get_or table n 0 ≡ 0

zeros-from : (at n : ℕ) → ZeroFrom at (replicate n 0)
zeros-from at n j h = zeros-at n j

set_rest : (at v : ℕ) (table : List ℕ) → ZeroFrom at table → ZeroFrom (at + 1) (set table at v)
set_rest at v table z n h = get_or-set_other table at n v 0 (omega arith) ∙ z n (omega arith)

-- ---- values stored from a place on
length-store : (at : ℕ) (vs table : List ℕ) → length (store at vs table) ≡ length table
unfolding store
length-store at [] table = refl
length-store at (v ∷ vs) table = length-store (at + 1) vs (set table at v) ∙ length-set table at v

store_low : (at : ℕ) (vs table : List ℕ) (n : ℕ) → n < at → get_or (store at vs table) n 0 ≡ get_or table n 0
unfolding store
store_low at [] table n h = refl
store_low at (v ∷ vs) table n h = store_low (at + 1) vs (set table at v) n (omega arith) ∙ get_or-set_other table at n v 0 (omega arith)

store_at : (at : ℕ) (vs table : List ℕ) → at + length vs ≤ length table → ZeroFrom at table → (j n : ℕ) → n ≡ at + j
    → get_or (store at vs table) n 0 ≡ get_or vs j 0
unfolding store
store_at at [] table l z j n e = z n (omega arith)
store_at at (v ∷ vs) table l z zero n e =
    let q : n ≡ at = omega arith in
    store_low (at + 1) vs (set table at v) n (omega arith) ∙ ap (λ x. get_or (set table at v) x 0) q ∙ get_or-set_same table at v 0 (omega arith)
store_at at (v ∷ vs) table l z (suc j) n e =
    let w = length-set table at v in
    store_at (at + 1) vs (set table at v) (omega arith) (set_rest at v table z) j n (omega arith)

store-rest : (at : ℕ) (vs table : List ℕ) → at + length vs ≤ length table → ZeroFrom at table → ZeroFrom (at + length vs) (store at vs table)
store-rest at vs table l z n h = store_at at vs table l z (n - at) n (omega arith) ∙ get_or-eq_default vs 0 (omega arith)

-- ---- lists of masks, eight places each
length-checks : (i q : ℕ) (checks : List (List ℕ)) (table : List ℕ) → length (store_checks i q checks table) ≡ length table
unfolding store_checks
length-checks i q [] table = refl
length-checks i q (vs ∷ checks) table =
    length-checks i (q + 1) checks (store (check_start i q) vs table) ∙ length-store (check_start i q) vs table

checks-low : (i q : ℕ) (checks : List (List ℕ)) (table : List ℕ) (n : ℕ) → n < check_start i q
    → get_or (store_checks i q checks table) n 0 ≡ get_or table n 0
unfolding store_checks
checks-low i q [] table n h = refl
checks-low i q (vs ∷ checks) table n h =
    checks-low i (q + 1) checks (store (check_start i q) vs table) n (omega arith) ∙ store_low (check_start i q) vs table n h

-- the generators are stored as checks of stream 0 would be
rows-as-checks : (i : ℕ) (rows : List (List ℕ)) (table : List ℕ) → store_rows i rows table ≡ store_checks 0 i rows table
unfolding store_rows store_checks
rows-as-checks i [] table = refl
rows-as-checks i (vs ∷ rows) table =
    let e : i * 8 ≡ check_start 0 i = omega arith in
    rows-as-checks (i + 1) rows (store (i * 8) vs table) ∙ ap (λ at. store_checks 0 (i + 1) rows (store at vs table)) e

pub length-streams : (i : ℕ) (streams : List Stream) (table : List ℕ) → length (store_streams i streams table) ≡ length table
unfolding store_streams
length-streams i [] table = refl
length-streams i (s ∷ streams) table =
    length-streams (i + 1) streams (store_checks i 0 s.checks table) ∙ length-checks i 0 s.checks table

streams-low : (i : ℕ) (streams : List Stream) (table : List ℕ) (n : ℕ) → n < i * check_stride → get_or (store_streams i streams table) n 0 ≡ get_or table n 0
unfolding store_streams
streams-low i [] table n h = refl
streams-low i (s ∷ streams) table n h =
    streams-low (i + 1) streams (store_checks i 0 s.checks table) n (omega arith) ∙ checks-low i 0 s.checks table n (omega arith)

counts-low : (i : ℕ) (streams : List Stream) (table : List ℕ) (n : ℕ) → n < i → get_or (store_counts i streams table) n 0 ≡ get_or table n 0
unfolding store_counts
counts-low i [] table n h = refl
counts-low i (s ∷ streams) table n h =
    counts-low (i + 1) streams (set table i s.count) n (omega arith) ∙ get_or-set_other table i n s.count 0 (omega arith)

counts-from : (i : ℕ) (streams : List Stream) (table : List ℕ) → i + length streams ≤ length table → ZeroFrom i table → (i₁ n : ℕ) → n ≡ i + i₁
    → get_or (store_counts i streams table) n 0 ≡ (get_or streams i₁ empty_stream).count
unfolding store_counts
counts-from i [] table l z i₁ n e = z n (omega arith)
counts-from i (s ∷ streams) table l z zero n e =
    let q : n ≡ i = omega arith in
    counts-low (i + 1) streams (set table i s.count) n (omega arith)
    ∙ ap (λ x. get_or (set table i s.count) x 0) q
    ∙ get_or-set_same table i s.count 0 (omega arith)
counts-from i (s ∷ streams) table l z (suc i₁) n e =
    let w = length-set table i s.count in
    counts-from (i + 1) streams (set table i s.count) (omega arith) (set_rest i s.count table z) i₁ n (omega arith)

pub count_at : (streams : List Stream) → length streams ≤ 4 → (i : ℕ) → get_or (store_counts 0 streams (replicate 4 0)) i 0 ≡ (get_or streams i empty_stream).count
count_at streams l i = counts-from 0 streams (replicate 4 0) (omega arith) (zeros-from 0 4) i i (omega arith)

module _ (p m : ℕ) (p-most : p ≤ 8) where
  -- a list of masks leaves the places after its own as they were
  masks-rest : (at : ℕ) (vs table : List ℕ) → MasksIn p m vs → at + 8 ≤ length table → ZeroFrom at table → ZeroFrom (at + 8) (store at vs table)
  masks-rest at vs table a l z n h = let w = a.many in store-rest at vs table (omega arith) z n (omega arith)

  checks-from : (i q : ℕ) (checks : List (List ℕ)) (table : List ℕ) → AllMasksIn p m checks → check_start i (q + length checks) ≤ length table
      → ZeroFrom (check_start i q) table → (r j n : ℕ) → j < 8 → n ≡ check_start i (q + r) + j
      → get_or (store_checks i q checks table) n 0 ≡ get_or (get_or checks r []) j 0
  unfolding store_checks
  checks-from i q [] table a l z r j n h e = z n (omega arith)
  checks-from i q (vs ∷ checks) table a l z zero j n h e =
      let w = a.0.many in
      checks-low i (q + 1) checks (store (check_start i q) vs table) n (omega arith)
      ∙ store_at (check_start i q) vs table (omega arith) z j n (omega arith)
  checks-from i q (vs ∷ checks) table a l z (suc r) j n h e =
      let w = length-store (check_start i q) vs table in
      let rest = masks-rest (check_start i q) vs table a.0 (omega arith) z in
      checks-from i (q + 1) checks (store (check_start i q) vs table) a.1 (omega arith) (λ x k. rest x (omega arith)) r j n h (omega arith)

  checks-rest : (i q : ℕ) (checks : List (List ℕ)) (table : List ℕ) → AllMasksIn p m checks → check_start i (q + length checks) ≤ length table
      → ZeroFrom (check_start i q) table → ZeroFrom (check_start i (q + length checks)) (store_checks i q checks table)
  unfolding store_checks
  checks-rest i q [] table a l z n h = z n (omega arith)
  checks-rest i q (vs ∷ checks) table a l z n h =
      let w = length-store (check_start i q) vs table in
      let rest = masks-rest (check_start i q) vs table a.0 (omega arith) z in
      checks-rest i (q + 1) checks (store (check_start i q) vs table) a.1 (omega arith) (λ x k. rest x (omega arith)) n (omega arith)

  streams-from : (i : ℕ) (streams : List Stream) (table : List ℕ) → AllStreamsIn p m streams → (i + length streams) * check_stride ≤ length table
      → ZeroFrom (i * check_stride) table → (i₁ q j n : ℕ) → q < most_checks → j < 8 → n ≡ check_start (i + i₁) q + j
      → get_or (store_streams i streams table) n 0 ≡ get_or (get_or (get_or streams i₁ empty_stream).checks q []) j 0
  unfolding store_streams
  streams-from i [] table a l z i₁ q j n h k e = z n (omega arith)
  streams-from i (s ∷ streams) table a l z zero q j n h k e =
      let w = a.0.many in
      let v = a.0.j_most in
      streams-low (i + 1) streams (store_checks i 0 s.checks table) n (omega arith)
      ∙ checks-from i 0 s.checks table a.0.masks (omega arith) (λ x y. z x (omega arith)) q j n k (omega arith)
  streams-from i (s ∷ streams) table a l z (suc i₁) q j n h k e =
      let w = a.0.many in
      let v = a.0.j_most in
      let u = length-checks i 0 s.checks table in
      let rest = checks-rest i 0 s.checks table a.0.masks (omega arith) (λ x y. z x (omega arith)) in
      streams-from (i + 1) streams (store_checks i 0 s.checks table) a.1 (omega arith) (λ x y. rest x (omega arith)) i₁ q j n h k (omega arith)

  pub generator-at : (rows : List (List ℕ)) → AllMasksIn p m rows → length rows ≤ 4 → (i j : ℕ) → j < 8
      → get_or (store_rows 0 rows (replicate 32 0)) (i * 8 + j) 0 ≡ get_or (get_or rows i []) j 0
  generator-at rows a l i j h =
      ap (λ table. get_or table (i * 8 + j) 0) (rows-as-checks 0 rows (replicate 32 0))
      ∙ checks-from 0 0 rows (replicate 32 0) a (omega arith) (zeros-from 0 32) i j (i * 8 + j) h (omega arith)

  pub check-at : (streams : List Stream) → AllStreamsIn p m streams → length streams ≤ 4 → (i q j : ℕ) → q < most_checks → j < 8
      → get_or (store_streams 0 streams (replicate check_words 0)) (check_start i q + j) 0 ≡ get_or (get_or (get_or streams i empty_stream).checks q []) j 0
  check-at streams a l i q j h k =
      streams-from 0 streams (replicate check_words 0) a (omega arith) (zeros-from 0 check_words) i q j (check_start i q + j) h k (omega arith)
