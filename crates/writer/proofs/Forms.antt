-- The written form of a card, and what it is good for: it is read as that card, states no default, and is the only such form.
use Prim.Native.Nat.{ℕ, ◌≤◌}
use mathlib.Core.Path.{◌≡◌, refl, sym, ap, subst, ◌∙◌}
use mathlib.Core.Logic.{⊎_elim}
use mathlib.Core.List.{List, ◌++◌}
use native.Mathlib.Omega.{arith}
use lib.ListN.{length, length-append}
use Rattle.bits.proofs.Cases.{same_or_not}
use Rattle.code.specs.Checks.{Orthogonal}
use Rattle.code.specs.declared.Card.{Card}
use Rattle.card.specs.Fields.{Fields, card_of}
use Rattle.card.specs.Layout.{optional, layout_head, layout_rows, layout_streams, layout, InRanges, longest_card, TrulyOrthogonal}
use Rattle.card.specs.Written.{stated, fields_of, written}
use Rattle.card.specs.Outcome.{CardOutcome}
use Rattle.card.specs.Outcome.Outcome.{accepted}
use Rattle.card.specs.declared.CardRule.{CardRule}
use Rattle.card.specs.declared.CardRule.TheVariants.{Present}
use Rattle.card.proofs.Acceptance.{reads_back}
use Rattle.card.proofs.CardLength.{optional-length, head-size, layout-length}
use Rattle.card.proofs.WholeReading.{accepted-read}
use Rattle.card.proofs.Limits.{read-in, read-standing}
use Rattle.card.proofs.Orthogonality.{standing-truly}
use Rattle.card.proofs.FieldsBack.{without_defaults, fields_back}
use Rattle.card.proofs.Defaults.{stated-most, default-stated, stated-default, plain_back}
use Rattle.writer.specs.Claims.{ReadsUnder, ReadsAs, States, WrittenForm}

-- a field that is left out only where it has its default is written in no more bytes than it was stated in
field-shorter : {stands : ℕ} (default v : ℕ) → stands ≤ 1 → (stands ≡ 0 → v ≡ default) → length (optional (stated default v) v) ≤ length (optional stands v)
unfolding optional
field-shorter {stands} default v most out =
    ⊎_elim (λ z. rw (default-stated default v (out z), z) (omega arith)) (λ n. rw (one n) (optional-length (stated default v) v)) (same_or_not stands 0)
  where
    one : (stands ≡ 0 → ⊥) → stands ≡ 1
    one n = omega arith

-- ---- fields without defaults
module _ (f : Fields) where
  still-in : InRanges f → InRanges (without_defaults f)
  still-in w =
      record {
        k_stands_bit = stated-most 1 f.head.k;
        n_stands_bit = stated-most 2 f.head.n;
        number_most = w.number_most;
        k_least = w.k_least;
        k_most = w.k_most;
        k_default = stated-default 1 f.head.k;
        n_least = w.n_least;
        n_most = w.n_most;
        n_default = stated-default 2 f.head.n;
        m_most = w.m_most;
        row_count = w.row_count;
        rows_in = w.rows_in;
        stream_count = w.stream_count;
        streams_in = w.streams_in;
      }

  layout-shorter : InRanges f → length (layout (without_defaults f)) ≤ length (layout f)
  unfolding layout
  layout-shorter w =
      let rest = layout_rows f.rows ++ layout_streams f.streams in
      omega (
        arith,
        length-append (layout_head (without_defaults f).head) rest,
        length-append (layout_head f.head) rest,
        head-size (without_defaults f).head,
        head-size f.head,
        field-shorter 1 f.head.k w.k_stands_bit w.k_default,
        field-shorter 2 f.head.n w.n_stands_bit w.n_default,
      )

  same_card : card_of (without_defaults f) ≡ card_of f
  unfolding card_of
  same_card = refl

  -- what is written is within the limits and orthogonal, if the card is
  laid_out : InRanges f → TrulyOrthogonal f → States Present (card_of f) (written (card_of f)) (without_defaults f)
  unfolding written
  laid_out w o =
      record {
        acceptable =
            record {
              limits =
                  record {
                    ranges = still-in w;
                    defaults = record { k_left_out = default-stated 1 f.head.k; n_left_out = default-stated 2 f.head.n };
                  };
              orthogonal = λ i h. subst (λ (c : Card). Orthogonal c i) (sym same_card) (o i h);
              bytes_are = ap layout (fields_back f w);
            };
        card_is = same_card;
      }

-- ---- the claims of a card

-- the fields that some accepted bytes state
stated-by : (rule : CardRule) (bytes : List ℕ) (c : Card) → ReadsUnder rule bytes c → (f : Fields) × InRanges f × TrulyOrthogonal f × (card_of f ≡ c)
stated-by rule bytes c e =
    let a = accepted-read rule bytes (ap (λ (r : CardOutcome). r.outcome) e) in
    let w = (read-in rule bytes a.0 a.1 a.2).ranges in (
      a.0,
      w,
      standing-truly a.0 w (read-standing rule bytes a.0 a.1 a.2),
      sym a.3 ∙ ap (λ (r : CardOutcome). r.card) e,
    )

module _ (c : Card) where
  form : (rule : CardRule) (bytes : List ℕ) → ReadsUnder rule bytes c → (f : Fields) × States Present c (written c) f
  form rule bytes e =
      let s = stated-by rule bytes c e in
      (without_defaults s.0, subst (λ (c : Card). States Present c (written c) (without_defaults s.0)) s.3 (laid_out s.0 s.1 s.2))

  read-form : (rule : CardRule) (bytes : List ℕ) → ReadsUnder rule bytes c → ReadsAs (written c) c
  read-form rule bytes e =
      let f = form rule bytes e in
      reads_back Present (written c) f.0 f.1.acceptable ∙ ap (λ (c : Card). record { outcome = accepted; card = c }) f.1.card_is

  only-form : (bytes : List ℕ) (f : Fields) → States Present c bytes f → written c ≡ bytes
  unfolding written
  only-form bytes f s =
      ap (λ (c : Card). layout (fields_of c)) (sym s.card_is) ∙ ap layout (plain_back f s.acceptable.limits) ∙ sym s.acceptable.bytes_are

  form-length : (rule : CardRule) (bytes : List ℕ) → ReadsUnder rule bytes c → length (written c) ≤ longest_card
  form-length rule bytes e =
      let f = form rule bytes e in
      omega (arith, layout-length f.0 f.1.acceptable.limits.ranges, ap length f.1.acceptable.bytes_are)

  shortest-form : (rule : CardRule) (bytes : List ℕ) (f : Fields) → States rule c bytes f → length (written c) ≤ length bytes
  unfolding written
  shortest-form rule bytes f s =
      let w = s.acceptable.limits.ranges in
      omega (
        arith,
        ap (λ (c : Card). length (layout (fields_of c))) (sym s.card_is),
        ap (λ (f : Fields). length (layout f)) (fields_back f w),
        layout-shorter f w,
        ap length s.acceptable.bytes_are,
      )

  pub written-form : WrittenForm c
  written-form = record { reads_back = read-form; states_it = form; one_only = only-form; length_most = form-length; shortest = shortest-form }
