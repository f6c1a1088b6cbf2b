-- The checks of the card that some fields state are orthogonal exactly when those of each of its streams stand.
use Prim.Native.Nat.{ℕ, zero, suc, ◌+◌, ◌-◌, ◌≤◌, ◌<◌}
use mathlib.Core.Path.{◌≡◌, refl, sym, subst, ◌∙◌}
use mathlib.Core.List.{List, [], ◌∷◌}
use native.Mathlib.Omega.{arith}
use lib.ListN.{length, get_or}
use Rattle.code.specs.Limits.{most_checks}
use Rattle.code.specs.Code.{generator}
use Rattle.code.specs.Checks.{count, check_mask, touches_info, touches_by, touches}
use Rattle.card.specs.Fields.{Stream, Fields, code_of, card_of}
use Rattle.card.specs.Reading.{mask_at}
use Rattle.card.specs.Layout.{InRanges, TrulyOrthogonal}
use Rattle.code.specs.declared.Card.{Card}
use Rattle.code.proofs.Touches.{touches-same}
use Rattle.card.proofs.Stores.{empty_stream}
use Rattle.card.proofs.CardTables.{stream_of, count-stated, mask-stated, stream-stated}
use Rattle.card.proofs.Standing.{ChecksStand, touches_at, ListOrthogonal, standing-orthogonal, orthogonal-standing}

-- ---- every stream
module _ (c : Card) where
  -- the checks of the streams from i on stand
  abbrev pub AllStand : ℕ → List Stream → Type 0
  AllStand i [] = Unit {0}
  AllStand i (s ∷ streams) = ChecksStand c i [] s.checks × AllStand (i + 1) streams

  stand-at : (i : ℕ) (streams : List Stream) → AllStand i streams → (i₁ n : ℕ) → i₁ < length streams → i + i₁ ≡ n
      → ChecksStand c n [] (get_or streams i₁ empty_stream).checks
  stand-at i [] a i₁ n h e = absurd (omega arith)
  stand-at i (s ∷ streams) a zero n h e = let q : i ≡ n = omega arith in rw q at a.0
  stand-at i (s ∷ streams) a (suc i₁) n h e = stand-at (i + 1) streams a.1 i₁ n (omega arith) (omega arith)

  all-stand : (i : ℕ) (streams : List Stream)
      → ((i₁ n : ℕ) → i₁ < length streams → i + i₁ ≡ n → ChecksStand c n [] (get_or streams i₁ empty_stream).checks) → AllStand i streams
  all-stand i [] a = tt
  all-stand i (s ∷ streams) a = (a 0 i (omega arith) (omega arith), all-stand (i + 1) streams (λ i₁ n h e. a (suc i₁) n (omega arith) (omega arith)))

-- ---- the card of fields within the limits
module _ (f : Fields) (w : InRanges f) where
  -- the masks of the checks of stream i
  abbrev checks_of : ℕ → List (List ℕ)
  checks_of i = (stream_of f i).checks

  abbrev code : Card
  code = code_of f.head f.rows

  count-listed : (i : ℕ) → (count (card_of f) i ≡ length (checks_of i)) × (length (checks_of i) ≤ most_checks)
  count-listed i =
      let s = stream-stated f w i in
      let many = s.0 in
      let most = s.1 in
      (count-stated f w i ∙ sym many, omega arith)

  -- the checks do not change the code
  touches-code : (mask : ℕ → ℕ) (b s : ℕ) → touches_by (card_of f) mask b s ≡ touches_by code mask b s
  unfolding touches_by touches_info generator card_of
  touches-code mask b s = refl

  touches-listed : (i q b s : ℕ) → q < most_checks → s < f.head.k + (f.head.n - f.head.k) → touches (card_of f) i q b s ≡ touches_at code (checks_of i) q b s
  unfolding touches
  touches-listed i q b s h l =
      touches-code (check_mask (card_of f) i q) b s
      ∙ touches-same code (check_mask (card_of f) i q) (mask_at (get_or (checks_of i) q [])) b s (λ j k. mask-stated f w i q j h (omega arith)) l

  pub standing-truly : AllStand code 0 f.streams → TrulyOrthogonal f
  unfolding card_of
  standing-truly a i h =
      let e = w.stream_count in
      let n = count-listed i in
      let o = standing-orthogonal code i (checks_of i) (stand-at code 0 f.streams a i i (omega arith) (omega arith)) in
      record {
        own = λ q l. touches-listed i q 0 i (omega arith) (omega arith) ∙ o.own q (omega arith);
        apart = λ b s q r lb ls other l lr t t₁.
            o.apart b s q r lb ls other l (omega arith)
            (sym (touches-listed i q b s (omega arith) ls) ∙ t) (sym (touches-listed i r b s (omega arith) ls) ∙ t₁);
      }

  truly-listed : TrulyOrthogonal f → (i : ℕ) → i < f.head.k → ListOrthogonal code i (checks_of i)
  unfolding card_of
  truly-listed o i h =
      let n = count-listed i in
      record {
        own = λ q l. sym (touches-listed i q 0 i (omega arith) (omega arith)) ∙ (o i h).own q (omega arith);
        apart = λ b s q r lb ls other l lr t t₁.
            (o i h).apart b s q r lb ls other l (omega arith)
            (touches-listed i q b s (omega arith) ls ∙ t) (touches-listed i r b s (omega arith) ls ∙ t₁);
      }

  pub truly-standing : TrulyOrthogonal f → AllStand code 0 f.streams
  truly-standing o =
      let e = w.stream_count in
      all-stand code 0 f.streams
      (λ i n h q.
      let q₁ : i ≡ n = omega arith in
      subst (λ x. ChecksStand code x [] (checks_of i)) q₁ (orthogonal-standing code i (checks_of i) (truly-listed o i (omega arith))))
