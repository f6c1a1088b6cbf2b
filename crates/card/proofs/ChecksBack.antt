-- The bytes of fields within the limits whose checks are orthogonal are read back as these fields.
use Prim.Native.Nat.{ℕ, suc, ◌+◌, ◌-◌, ◌^◌, ◌≤◌, ◌<◌}
use mathlib.Core.Path.{◌≡◌, refl, sym, ap, subst, ◌∙◌}
use mathlib.Core.List.{List, [], ◌∷◌, ◌++◌, append_assoc, append-nil}
use native.Mathlib.Nat.{mod-eq_of_lt}
use native.Mathlib.Omega.{arith}
use lib.ListN.{length, drop, length-drop}
use lib.Pow.{le_ones}
use borrow.Author.Tests.{eq-eqb, le-ltb}
use Rattle.code.specs.Limits.{most_checks}
use Rattle.card.specs.Fields.{Stream, Fields, code_of}
use Rattle.card.specs.Reading.{byte_field, read_head, read_masks, read_generators, judge_after, read_check, read_checks, read_streams, read_fields}
use Rattle.card.specs.Reading.Field.{value}
use Rattle.card.specs.Reading.Read.{got}
use Rattle.card.specs.Layout.{map_of, layout_masks, layout_rows, layout_checks, layout_streams, layout, AllMasksIn, AllStreamsIn, Acceptable}
use Rattle.code.specs.declared.Card.{Card}
use Rattle.card.specs.declared.CardRule.{CardRule}
use Rattle.card.proofs.Standing.{ChecksStand}
use Rattle.card.proofs.Orthogonality.{AllStand, truly-standing}
use Rattle.card.proofs.LayoutLaws.{map-lt}
use Rattle.card.proofs.LaidBack.{byte-back, masks-back, generators-back, head-back}

module _ (bs : List ℕ) (c : Card) (m_most : c.m ≤ 31) where
  -- ---- the checks of a stream
  check-step : (i : ℕ) (earlier : List (List ℕ)) (at map : ℕ) (vs : List ℕ) (at₁ : ℕ) → byte_field bs at 0 (2 ^ c.p - 1) 5 ≡ value map
      → read_masks bs c.m c.p map (at + 1) ≡ got vs at₁ → judge_after c i earlier vs ≡ 0 → read_check bs c i earlier at ≡ got vs at₁
  unfolding read_check
  check-step i earlier at map vs at₁ e r j = rw (e, r, eq-eqb (judge_after c i earlier vs) 0 j)

  checks-step : (i : ℕ) (earlier : List (List ℕ)) (at : ℕ) (vs : List ℕ) (at₁ : ℕ) (checks : List (List ℕ)) (at₂ : ℕ)
      → read_check bs c i earlier at ≡ got vs at₁ → read_checks bs c i (length checks) (vs ∷ earlier) at₁ ≡ got checks at₂
      → read_checks bs c i (suc (length checks)) earlier at ≡ got (vs ∷ checks) at₂
  unfolding read_checks
  checks-step i earlier at vs at₁ checks at₂ e r = rw (e, r)

  checks-back : (i : ℕ) (earlier checks : List (List ℕ)) (at : ℕ) (l : List ℕ) → AllMasksIn c.p c.m checks → ChecksStand c i earlier checks
      → drop at bs ≡ layout_checks checks ++ l → (at₁ : ℕ) × (read_checks bs c i (length checks) earlier at ≡ got checks at₁) × (drop at₁ bs ≡ l)
  unfolding layout_checks
  checks-back i earlier [] at l a o e = (at, unfold read_checks in refl, e)
  checks-back i earlier (vs ∷ checks) at l a o e =
      let u : map_of vs < 2 ^ c.p = subst (λ x. map_of vs < 2 ^ x) a.0.many (map-lt vs) in
      let b = byte-back bs at 0 (2 ^ c.p - 1) 5 (map_of vs) _ e (omega arith) (le_ones c.p u) in
      let k =
      masks-back bs c.p c.m vs (map_of vs) (at + 1) (layout_checks checks ++ l) m_most a.0 (mod-eq_of_lt (map-lt vs))
      (b.1 ∙ append_assoc (layout_masks vs) (layout_checks checks) l) in
      let r = checks-back i (vs ∷ earlier) checks k.0 l a.1 o.1 k.2 in
      (r.0, checks-step i earlier at vs k.0 checks r.0 (check-step i earlier at (map_of vs) vs k.0 b.0 k.1 o.0) r.1, r.2)

  -- ---- the streams
  streams-step : (i at count : ℕ) (checks : List (List ℕ)) (at₁ : ℕ) (streams : List Stream) (at₂ : ℕ) → byte_field bs at 1 most_checks 7 ≡ value count
      → read_checks bs c i count [] (at + 1) ≡ got checks at₁ → read_streams bs c (length streams) (i + 1) at₁ ≡ got streams at₂
      → read_streams bs c (suc (length streams)) i at ≡ got (record { count = count; checks = checks } ∷ streams) at₂
  unfolding read_streams
  streams-step i at count checks at₁ streams at₂ e q r = rw (e, q, r)

  streams-back : (i : ℕ) (streams : List Stream) (at : ℕ) (l : List ℕ) → AllStreamsIn c.p c.m streams → AllStand c i streams
      → drop at bs ≡ layout_streams streams ++ l → (at₁ : ℕ) × (read_streams bs c (length streams) i at ≡ got streams at₁) × (drop at₁ bs ≡ l)
  unfolding layout_streams
  streams-back i [] at l a o e = (at, unfold read_streams in refl, e)
  streams-back i (s ∷ streams) at l a o e =
      let b = byte-back bs at 1 most_checks 7 s.count _ e a.0.j_least a.0.j_most in
      let k =
      checks-back i [] s.checks (at + 1) (layout_streams streams ++ l) a.0.masks o.0
      (b.1 ∙ append_assoc (layout_checks s.checks) (layout_streams streams) l) in
      let r = streams-back (i + 1) streams k.0 l a.1 o.1 k.2 in
      let q = subst (λ x. read_checks bs c i x [] (at + 1) ≡ got s.checks k.0) a.0.many k.1 in
      (r.0, streams-step i at s.count s.checks k.0 streams r.0 b.0 q r.1, r.2)

-- ---- the whole card
fields-step : (rule : CardRule) (bs : List ℕ) (f : Fields) (at₀ at₁ at : ℕ) → read_head rule bs ≡ got f.head at₀
    → read_generators bs at₀ f.head.k (f.head.n - f.head.k) f.head.m ≡ got f.rows at₁
    → read_streams bs (code_of f.head f.rows) f.head.k 0 at₁ ≡ got f.streams at → length bs ≤ at → read_fields rule bs ≡ got f at
unfolding read_fields
fields-step rule bs f at₀ at₁ at e₁ e₂ e₃ h = rw (e₁, e₂, e₃, le-ltb at (length bs) h)

pub fields_back : (rule : CardRule) (bs : List ℕ) (f : Fields) → Acceptable rule bs f → (at : ℕ) × (read_fields rule bs ≡ got f at)
unfolding layout
fields_back rule bs f a =
    let w = a.limits.ranges in
    let p = f.head.n - f.head.k in
    let code = code_of f.head f.rows in
    let b = head-back bs rule f (layout_rows f.rows ++ layout_streams f.streams) a.limits a.bytes_are in
    let r = generators-back bs b.0 p f.head.m f.rows (layout_streams f.streams) w.m_most w.rows_in b.2 in
    let s =
    streams-back bs code w.m_most 0 f.streams r.0 [] w.streams_in (truly-standing f w a.orthogonal)
    (r.2 ∙ sym (append-nil (layout_streams f.streams))) in
    let z = sym (length-drop s.0 bs) ∙ ap length s.2 in (
      s.0,
      fields-step rule bs f b.0 r.0 s.0 b.1
          (subst (λ x. read_generators bs b.0 x p f.head.m ≡ got f.rows r.0) w.row_count r.1)
          (subst (λ x. read_streams bs code x 0 r.0 ≡ got f.streams s.0) w.stream_count s.1)
          (omega arith),
    )
