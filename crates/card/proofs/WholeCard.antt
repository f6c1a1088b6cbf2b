-- The parts of a card put together: what `read_card` gives is what the definition reads.
use Prim.Native.Nat.{ℕ, ◌+◌, ◌-◌, ◌≤◌, ◌<◌}
use mathlib.Core.Path.{◌≡◌, sym, ap, ◌∙◌}
use mathlib.Core.List.{List}
use native.Mathlib.Omega.{arith}
use lib.ListN.{length, replicate}
use borrow.Author.Tests.{lt-ltb, le-ltb}
use Rattle.code.specs.Limits.{check_words}
use Rattle.card.specs.Outcome.{CardOutcome}
use Rattle.card.specs.Outcome.Outcome.{accepted}
use Rattle.card.specs.Fields.{Head, Stream, store_rows, code_of, with_checks, card_of}
use Rattle.card.specs.Reading.{Read, read_mapped, read_head, read_generators, read_streams, read_fields, refused_card, read_under}
use Rattle.card.specs.Reading.Read.{got, fault}
use Rattle.card.specs.Parts.{sizes_of, code_by, Tables, tables_with}
use Rattle.code.specs.declared.Card.{Card}
use Rattle.card.specs.declared.CardRule.{CardRule}
use Rattle.card.specs.declared.parts.Sizes.{Sizes}
use Rattle.card.proofs.ReadParts.{map-got, map-faulted, head_in, generators-inside}

-- ---- the answer after each part
module _ (rule : CardRule) (bs : List ℕ) where
  pub head-refused : {n o : ℕ} → read_head rule bs ≡ fault n o → refused_card n o ≡ read_under rule bs
  unfolding read_under read_fields
  head-refused e = rw e

  module _ {h : Head} {at : ℕ} (e₁ : read_head rule bs ≡ got h at) where
    pub generators-refused : {n o : ℕ} → read_generators bs at h.k (h.n - h.k) h.m ≡ fault n o → refused_card n o ≡ read_under rule bs
    unfolding read_under read_fields
    generators-refused e = rw (e₁, e)

    module _ {rows : List (List ℕ)} {at₁ : ℕ} (e₂ : read_generators bs at h.k (h.n - h.k) h.m ≡ got rows at₁) where
      pub checks-refused : {n o : ℕ} → read_streams bs (code_of h rows) h.k 0 at₁ ≡ fault n o → refused_card n o ≡ read_under rule bs
      unfolding read_under read_fields
      checks-refused e = rw (e₁, e₂, e)

      module _ {streams : List Stream} {at₂ : ℕ} (e₃ : read_streams bs (code_of h rows) h.k 0 at₁ ≡ got streams at₂) where
        pub bytes_after : at₂ < length bs → refused_card 10 at₂ ≡ read_under rule bs
        unfolding read_under read_fields
        bytes_after l = rw (e₁, e₂, e₃, lt-ltb at₂ (length bs) l)

        pub whole-card : length bs ≤ at₂ → record { outcome = accepted; card = with_checks (code_of h rows) streams } ≡ read_under rule bs
        unfolding read_under read_fields card_of
        whole-card l = rw (e₁, e₂, e₃, le-ltb at₂ (length bs) l)

-- ---- as `read_card` has them: each part's fault, and what it read
module _ (rule : CardRule) (bs : List ℕ) where
  pub head-stop : {n o : ℕ} → fault n o ≡ read_mapped sizes_of (read_head rule bs) → refused_card n o ≡ read_under rule bs
  head-stop e = head-refused rule bs (map-faulted sizes_of (read_head rule bs) (sym e))

  module _ {z : Sizes} {at₁ : ℕ} (e₁ : got z at₁ ≡ read_mapped sizes_of (read_head rule bs)) where
    head-got : (h : Head) × (read_head rule bs ≡ got h at₁) × (sizes_of h ≡ z)
    head-got = map-got sizes_of (read_head rule bs) (sym e₁)

    -- what the head states lies within the limits
    pub record Ranges : Type 0 where
      pub inside : at₁ ≤ length bs
      pub k_most : z.k ≤ 4
      pub n_most : z.k + z.p ≤ 8
      pub p-most : z.p ≤ 7
      pub m_most : z.m < 32

    pub head-ranges : Ranges
    head-ranges =
        let h = head-got.0 in
        let i = head_in rule bs h at₁ head-got.1 in
        let k = ap (λ (x : Sizes). x.k) head-got.2 in
        let p = ap (λ (x : Sizes). x.p) head-got.2 in
        let m = ap (λ (x : Sizes). x.m) head-got.2 in
        record { inside = i.inside; k_most = omega arith; n_most = omega arith; p-most = omega arith; m_most = omega arith }

    abbrev rows_read : Sizes → Read (List (List ℕ))
    rows_read z = read_generators bs at₁ z.k z.p z.m

    abbrev stored : List (List ℕ) → List ℕ
    stored rows = store_rows 0 rows (replicate 32 0)

    pub generators-stop : {n o : ℕ} → fault n o ≡ read_mapped stored (rows_read z) → refused_card n o ≡ read_under rule bs
    generators-stop e = generators-refused rule bs head-got.1 (ap rows_read head-got.2 ∙ map-faulted stored (rows_read z) (sym e))

    module _ {generators : List ℕ} {at₂ : ℕ} (e₂ : got generators at₂ ≡ read_mapped stored (rows_read z)) where
      rows-got : (rows : List (List ℕ)) × (rows_read z ≡ got rows at₂) × (stored rows ≡ generators)
      rows-got = map-got stored (rows_read z) (sym e₂)

      rows-read : rows_read (sizes_of head-got.0) ≡ got rows-got.0 at₂
      rows-read = ap rows_read head-got.2 ∙ rows-got.1

      pub generators_within : at₂ ≤ length bs
      generators_within = generators-inside bs at₁ z.k z.p z.m rows-got.1

      -- the card before its checks
      code_is : code_by z generators ≡ code_of head-got.0 rows-got.0
      code_is = sym (ap (λ z. code_by z (stored rows-got.0)) head-got.2 ∙ ap (code_by z) rows-got.2)

      abbrev streams_read : Card → Read (List Stream)
      streams_read c = read_streams bs c c.k 0 at₂

      abbrev tables_of : List Stream → Tables
      tables_of streams = tables_with 0 (replicate 4 0) (replicate check_words 0) streams

      pub checks-stop : {n o : ℕ} → fault n o ≡ read_mapped tables_of (streams_read (code_by z generators)) → refused_card n o ≡ read_under rule bs
      checks-stop e =
          checks-refused rule bs head-got.1 rows-read (ap streams_read (sym code_is) ∙ map-faulted tables_of (streams_read (code_by z generators)) (sym e))

      module _ {tables : Tables} {at₃ : ℕ} (e₃ : got tables at₃ ≡ read_mapped tables_of (streams_read (code_by z generators))) where
        streams-got : (streams : List Stream) × (streams_read (code_by z generators) ≡ got streams at₃) × (tables_of streams ≡ tables)
        streams-got = map-got tables_of (streams_read (code_by z generators)) (sym e₃)

        streams-read : streams_read (code_of head-got.0 rows-got.0) ≡ got streams-got.0 at₃
        streams-read = ap streams_read (sym code_is) ∙ streams-got.1

        pub after_stop : at₃ < length bs → refused_card 10 at₃ ≡ read_under rule bs
        after_stop l = bytes_after rule bs head-got.1 rows-read streams-read l

        -- the card with its tables
        abbrev with_tables : Tables → CardOutcome
        with_tables t =
            record {
              outcome = accepted;
              card = record { number = z.number; k = z.k; p = z.p; m = z.m; generators = generators; counts = t.counts; checks = t.checks };
            }

        pub accepted-card : length bs ≤ at₃ → with_tables tables ≡ read_under rule bs
        accepted-card l =
            ap with_tables (sym streams-got.2)
            ∙ ap (λ (c : Card). record { outcome = accepted; card = with_checks c streams-got.0 }) code_is
            ∙ whole-card rule bs head-got.1 rows-read streams-read l
