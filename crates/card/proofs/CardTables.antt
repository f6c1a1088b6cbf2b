-- What the tables of the card of fields within the limits hold: at every place the mask or count that the fields state there, zero where none.
use Prim.Native.Nat.{ℕ, zero, suc, ◌+◌, ◌-◌, ◌*◌, ◌^◌, ◌≤◌, ◌<◌}
use mathlib.Core.Path.{◌≡◌, refl}
use mathlib.Core.List.{List, [], ◌∷◌}
use native.Mathlib.Omega.{arith}
use lib.ListN.{length, get_or, get_or-eq_default}
use lib.Pow.{pow_pos}
use Rattle.code.specs.Limits.{most_checks}
use Rattle.code.specs.Checks.{count, check_mask}
use Rattle.card.specs.Fields.{Stream, Fields, card_of}
use Rattle.card.specs.Layout.{AllMasksIn, AllStreamsIn, InRanges}
use Rattle.card.proofs.Stores.{empty_stream, generator-at, count_at, check-at}

-- ---- the masks at a place
module _ (p m : ℕ) where
  pub mask-within : (checks : List (List ℕ)) → AllMasksIn p m checks → (q j : ℕ) → get_or (get_or checks q []) j 0 < 2 ^ (m + 1)
  mask-within [] a q j = pow_pos (m + 1)
  mask-within (vs ∷ checks) a zero j = a.0.within j
  mask-within (vs ∷ checks) a (suc q) j = mask-within checks a.1 q j

  pub mask-beyond : (checks : List (List ℕ)) → AllMasksIn p m checks → (q j : ℕ) → p ≤ j → get_or (get_or checks q []) j 0 ≡ 0
  mask-beyond [] a q j h = refl
  mask-beyond (vs ∷ checks) a zero j h = let n = a.0.many in get_or-eq_default vs 0 (omega arith)
  mask-beyond (vs ∷ checks) a (suc q) j h = mask-beyond checks a.1 q j h

  -- at every place, also beyond the streams
  stream-any : (streams : List Stream) → AllStreamsIn p m streams → (i : ℕ)
      → (length (get_or streams i empty_stream).checks ≡ (get_or streams i empty_stream).count)
      × ((get_or streams i empty_stream).count ≤ most_checks)
      × AllMasksIn p m (get_or streams i empty_stream).checks
  stream-any [] a i = (refl, omega arith, tt)
  stream-any (s ∷ streams) a zero = (a.0.many, a.0.j_most, a.0.masks)
  stream-any (s ∷ streams) a (suc i) = stream-any streams a.1 i

-- ---- the tables

-- information stream i, with no check beyond the k streams
abbrev pub stream_of : Fields → ℕ → Stream
stream_of f i = get_or f.streams i empty_stream

module _ (f : Fields) (w : InRanges f) where
  p-most : f.head.n - f.head.k ≤ 8
  p-most = let n = w.n_most in omega arith

  few-rows : length f.rows ≤ 4
  few-rows = let e = w.row_count in let k = w.k_most in omega arith

  few-streams : length f.streams ≤ 4
  few-streams = let e = w.stream_count in let k = w.k_most in omega arith

  pub generator-stated : (i j : ℕ) → j < 8 → get_or (card_of f).generators (i * 8 + j) 0 ≡ get_or (get_or f.rows i []) j 0
  unfolding card_of
  generator-stated i j h = generator-at (f.head.n - f.head.k) f.head.m p-most f.rows w.rows_in few-rows i j h

  pub count-stated : (i : ℕ) → count (card_of f) i ≡ (stream_of f i).count
  unfolding count card_of
  count-stated i = count_at f.streams few-streams i

  pub mask-stated : (i q j : ℕ) → q < most_checks → j < 8 → check_mask (card_of f) i q j ≡ get_or (get_or (stream_of f i).checks q []) j 0
  unfolding check_mask card_of
  mask-stated i q j h k = check-at (f.head.n - f.head.k) f.head.m p-most f.streams w.streams_in few-streams i q j h k

  pub stream-stated : (i : ℕ)
      → (length (stream_of f i).checks ≡ (stream_of f i).count)
      × ((stream_of f i).count ≤ most_checks)
      × AllMasksIn (f.head.n - f.head.k) f.head.m (stream_of f i).checks
  stream-stated i = stream-any (f.head.n - f.head.k) f.head.m f.streams w.streams_in i
