-- What the card of fields within the limits, whose checks are orthogonal, guarantees.
use Prim.Native.Nat.{ℕ, ◌+◌, ◌-◌, ◌*◌, ◌/◌, ◌%◌, ◌^◌, ◌≤◌, ◌<◌}
use mathlib.Core.Path.{◌≡◌, ap, subst, ◌∙◌}
use mathlib.Core.List.{[]}
use mathlib.Core.Logic.{◌⊎◌, ⊎_elim}
use native.Mathlib.Omega.{arith}
use lib.ListN.{get_or, replicate, length-replicate, get_or-eq_default}
use Rattle.code.specs.Limits.{most_checks, check_stride, check_words, check_start}
use Rattle.code.specs.Checks.{count, check_mask}
use Rattle.code.specs.Guarantees.{Guarantees}
use Rattle.card.specs.Fields.{Stream, Fields, card_of}
use Rattle.card.specs.Layout.{InRanges, TrulyOrthogonal}
use Rattle.card.proofs.Stores.{empty_stream, length-streams, stream-in-list}
use Rattle.card.proofs.CardTables.{mask-within, mask-beyond, stream_of, generator-stated, count-stated, mask-stated, stream-stated}

module _ (f : Fields) (w : InRanges f) where
  abbrev p : ℕ
  p = f.head.n - f.head.k

  -- ---- no mask has a bit above m
  generator-within : (at : ℕ) → get_or (card_of f).generators at 0 < 2 ^ (f.head.m + 1)
  generator-within at =
      let e : at / 8 * 8 + at % 8 ≡ at = omega arith in
      subst (λ x. get_or (card_of f).generators x 0 < 2 ^ (f.head.m + 1)) e
      (rw (generator-stated f w (at / 8) (at % 8) (omega arith)) (mask-within p f.head.m f.rows w.rows_in (at / 8) (at % 8)))

  mask-small : (i q j : ℕ) → q < most_checks → j < 8 → check_mask (card_of f) i q j < 2 ^ (f.head.m + 1)
  mask-small i q j h k = rw (mask-stated f w i q j h k) (mask-within p f.head.m (stream_of f i).checks (stream-stated f w i).2 q j)

  check-within : (at : ℕ) → get_or (card_of f).checks at 0 < 2 ^ (f.head.m + 1)
  unfolding check_mask
  check-within at =
      let e : check_start (at / check_stride) (at % check_stride / 8) + at % check_stride % 8 ≡ at = omega arith in
      subst (λ x. get_or (card_of f).checks x 0 < 2 ^ (f.head.m + 1)) e (mask-small (at / check_stride) (at % check_stride / 8) (at % check_stride % 8) (omega arith) (omega arith))

  -- ---- what the card does not state is zero
  generator-unused : (i j : ℕ) → j < 8 → (f.head.k ≤ i) ⊎ (p ≤ j) → get_or (card_of f).generators (i * 8 + j) 0 ≡ 0
  generator-unused i j h o =
      let e = w.row_count in
      generator-stated f w i j h
      ∙ ⊎_elim
      (λ l. ap (λ vs. get_or vs j 0) (get_or-eq_default f.rows [] (omega arith)))
      (λ l. mask-beyond p f.head.m f.rows w.rows_in i j l)
      o

  count-unused : (i : ℕ) → f.head.k ≤ i → count (card_of f) i ≡ 0
  count-unused i h =
      let e = w.stream_count in
      count-stated f w i ∙ ap (λ (s : Stream). s.count) (get_or-eq_default f.streams empty_stream (omega arith))

  mask-unused : (i q j : ℕ) → q < most_checks → j < 8 → (count (card_of f) i ≤ q) ⊎ (p ≤ j) → check_mask (card_of f) i q j ≡ 0
  mask-unused i q j h k o =
      let s = stream-stated f w i in
      let many = s.0 in
      let n = count-stated f w i in
      mask-stated f w i q j h k
      ∙ ⊎_elim
      (λ l. ap (λ vs. get_or vs j 0) (get_or-eq_default (stream_of f i).checks [] (omega arith)))
      (λ l. mask-beyond p f.head.m (stream_of f i).checks s.2 q j l)
      o

  -- ---- the card
  count-least : (i : ℕ) → i < f.head.k → 1 ≤ count (card_of f) i
  count-least i h =
      let e = w.stream_count in
      rw (count-stated f w i) (stream-in-list p f.head.m f.streams w.streams_in i (omega arith)).j_least

  count_most : (i : ℕ) → count (card_of f) i ≤ most_checks
  count_most i = rw (count-stated f w i) (stream-stated f w i).1

  pub guaranteed : TrulyOrthogonal f → Guarantees (card_of f)
  unfolding card_of check_mask
  guaranteed o =
      let k_most = w.k_most in
      let n_least = w.n_least in
      let n_most = w.n_most in
      record {
        number_most = w.number_most;
        k_least = w.k_least;
        k_most = k_most;
        p_least = omega arith;
        n_most = omega arith;
        m_most = w.m_most;
        j_least = count-least;
        j_most = count_most;
        checks_long = length-streams 0 f.streams (replicate check_words 0) ∙ length-replicate {A = ℕ} check_words 0;
        generators_within = generator-within;
        checks_within = check-within;
        generators_unused = generator-unused;
        counts_unused = count-unused;
        checks_unused = mask-unused;
        orthogonal = o;
      }
