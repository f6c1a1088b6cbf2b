-- The rest of the checks from where the loops of `read_checks` stand: one law for each turn, fault and end.
use Prim.Native.Nat.{ℕ, ◌+◌, ◌-◌, ◌*◌, ◌/◌, ◌%◌, ◌^◌, ◌≤◌, ◌<◌}
use mathlib.Core.Path.{◌≡◌, refl, sym, ap, ◌∙◌}
use mathlib.Core.Bool.{Bool, true, false, cond}
use mathlib.Core.List.{List, [], ◌∷◌, ◌++◌, append_assoc, append-nil}
use native.Mathlib.Nat.{sub-zero, add-zero, add_assoc}
use lib.ListN.{set}
use lib.Dec.{eqb}
use borrow.Author.Tests.{eq-eqb, ne_eqb}
use Rattle.code.specs.Limits.{most_checks, check_start}
use Rattle.card.specs.Fields.{store, store_checks, store_streams, store_counts}
use Rattle.card.specs.Reading.{Read, read_mapped, next, byte_field, standing_mask, read_masks, judge_after, judged, read_check, read_checks, read_streams}
use Rattle.card.specs.Reading.Field.{value, bad}
use Rattle.card.specs.Reading.Read.{got, fault}
use Rattle.card.specs.Parts.{Tables, tables_with}
use Rattle.code.specs.declared.Card.{Card}
use Rattle.card.proofs.Rest.{next_is-map, next_map, next-next, next-same, one_less, none_left, masks-turn, masks-fault, masks-end}

module _ (bs : List ℕ) (c : Card) where
  -- from stream i on
  pub rest_streams : ℕ → List ℕ → List ℕ → ℕ → Read Tables
  rest_streams i counts checks at = next (read_streams bs c (c.k - i) i at) (λ streams at₁. got (tables_with i counts checks streams) at₁)

  -- from check q of the count checks of stream i on
  pub rest_checks : ℕ → ℕ → ℕ → List (List ℕ) → List ℕ → List ℕ → ℕ → Read Tables
  rest_checks i count q earlier counts checks at =
      next (read_checks bs c i (count - q) earlier at) (λ cs at₁. rest_streams (i + 1) counts (store_checks i q cs checks) at₁)

  -- from the judgement of check q, with the masks vs, on
  pub rest_judged : ℕ → ℕ → ℕ → ℕ → List (List ℕ) → List ℕ → List ℕ → List ℕ → ℕ → Read Tables
  rest_judged i count q place earlier vs counts checks at =
      cond (eqb (judge_after c i earlier vs) 0) (rest_checks i count (q + 1) (vs ∷ earlier) counts checks at) (fault (judge_after c i earlier vs) place)

  -- from mask j of check q on; `seen` are the masks before it
  pub rest_masks : ℕ → ℕ → ℕ → ℕ → List (List ℕ) → List ℕ → List ℕ → ℕ → List ℕ → ℕ → ℕ → Read Tables
  rest_masks i count q place earlier counts seen j checks map at =
      next (read_masks bs c.m (c.p - j) map at)
      (λ vs at₁. rest_judged i count q place earlier (seen ++ vs) counts (store (check_start i q + j) vs checks) at₁)

  -- ---- the streams
  pub streams-start : (counts checks : List ℕ) (start : ℕ) → rest_streams 0 counts checks start ≡ read_mapped (tables_with 0 counts checks) (read_streams bs c c.k 0 start)
  unfolding rest_streams
  streams-start counts checks start = rw sub-zero (next_is-map (tables_with 0 counts checks) (read_streams bs c c.k 0 start))

  pub streams-end : (i : ℕ) (counts checks : List ℕ) (at : ℕ) → c.k ≤ i → rest_streams i counts checks at ≡ got (record { counts = counts; checks = checks }) at
  unfolding rest_streams read_streams store_counts store_streams
  streams-end i counts checks at h = rw (none_left c.k i h)

  pub streams-fault : (i : ℕ) (counts checks : List ℕ) (at : ℕ) {n o : ℕ} → i < c.k → byte_field bs at 1 most_checks 7 ≡ bad n o → rest_streams i counts checks at ≡ fault n o
  unfolding rest_streams read_streams
  streams-fault i counts checks at h e = rw (one_less c.k i h, e)

  pub streams-turn : (i : ℕ) (counts checks : List ℕ) (at : ℕ) {count : ℕ} → i < c.k → byte_field bs at 1 most_checks 7 ≡ value count
      → rest_streams i counts checks at ≡ rest_checks i count 0 [] (set counts i count) checks (at + 1)
  unfolding rest_streams rest_checks read_streams store_counts store_streams
  streams-turn i counts checks at {count} h e =
      rw (one_less c.k i h, e, sub-zero)
      (next-next (λ cs at₁. read_mapped (λ ss. record { count = count; checks = cs } ∷ ss) (read_streams bs c (c.k - (i + 1)) (i + 1) at₁)) _ (read_checks bs c i count [] (at + 1))
      ∙ next-same (read_checks bs c i count [] (at + 1))
      (λ cs at₁. next_map (λ ss. record { count = count; checks = cs } ∷ ss) _ (read_streams bs c (c.k - (i + 1)) (i + 1) at₁)))

  -- ---- the checks of a stream
  module _ (i count q : ℕ) (earlier : List (List ℕ)) (counts : List ℕ) where
    pub checks-end : (checks : List ℕ) (at : ℕ) → count ≤ q → rest_checks i count q earlier counts checks at ≡ rest_streams (i + 1) counts checks at
    unfolding rest_checks read_checks store_checks
    checks-end checks at h = rw (none_left count q h)

    pub checks-fault : (checks : List ℕ) (at : ℕ) {n o : ℕ} → q < count → byte_field bs at 0 (2 ^ c.p - 1) 5 ≡ bad n o
        → rest_checks i count q earlier counts checks at ≡ fault n o
    unfolding rest_checks read_checks read_check
    checks-fault checks at h e = rw (one_less count q h, e)

    -- after check q, with the masks ws
    abbrev checks_after : List ℕ → List ℕ → ℕ → Read Tables
    checks_after checks ws at =
        next (read_checks bs c i (count - (q + 1)) (ws ∷ earlier) at) (λ cs at₁. rest_streams (i + 1) counts (store_checks i q (ws ∷ cs) checks) at₁)

    after-judged : (place : ℕ) (checks vs : List ℕ) (at number : ℕ)
        → next (judged vs place at number) (checks_after checks)
        ≡ cond (eqb number 0) (rest_checks i count (q + 1) (vs ∷ earlier) counts (store (check_start i q) vs checks) at) (fault number place)
    unfolding rest_checks store_checks
    after-judged place checks vs at number = go (eqb number 0)
      where
        go : (b : Bool)
            → next (cond b (got vs at) (fault number place)) (checks_after checks)
            ≡ cond b (rest_checks i count (q + 1) (vs ∷ earlier) counts (store (check_start i q) vs checks) at) (fault number place)
        go true = refl
        go false = refl

    pub checks-turn : (checks : List ℕ) (at : ℕ) {map : ℕ} → q < count → byte_field bs at 0 (2 ^ c.p - 1) 5 ≡ value map
        → rest_checks i count q earlier counts checks at ≡ rest_masks i count q at earlier counts [] 0 checks map (at + 1)
    unfolding rest_checks rest_masks rest_judged read_checks read_check
    checks-turn checks at {map} h e =
        rw (one_less count q h, e, sub-zero, add-zero)
        (next-next more go (next (read_masks bs c.m c.p map (at + 1)) each)
        ∙ next-next each (λ vs at₁. next (more vs at₁) go) (read_masks bs c.m c.p map (at + 1))
        ∙ next-same (read_masks bs c.m c.p map (at + 1))
        (λ vs at₁.
        next-same (each vs at₁) (λ ws at₂. next_map (λ cs. ws ∷ cs) go (read_checks bs c i (count - (q + 1)) (ws ∷ earlier) at₂))
        ∙ after-judged at checks vs at₁ (judge_after c i earlier vs)))
      where
        go : List (List ℕ) → ℕ → Read Tables
        go cs at₁ = rest_streams (i + 1) counts (store_checks i q cs checks) at₁

        more : List ℕ → ℕ → Read (List (List ℕ))
        more vs at₁ = read_mapped (λ cs. vs ∷ cs) (read_checks bs c i (count - (q + 1)) (vs ∷ earlier) at₁)

        each : List ℕ → ℕ → Read (List ℕ)
        each vs at₁ = judged vs at at₁ (judge_after c i earlier vs)

    -- ---- the masks of a check
    module _ (place : ℕ) (seen : List ℕ) (j : ℕ) (checks : List ℕ) (map at : ℕ) where
      -- from the judgement on, with the masks that are left
      abbrev judged_with : List ℕ → ℕ → Read Tables
      judged_with vs at₁ = rest_judged i count q place earlier (seen ++ vs) counts (store (check_start i q + j) vs checks) at₁

      pub check-fault : {n o : ℕ} → j < c.p → standing_mask bs at c.m (map % 2) ≡ bad n o
          → rest_masks i count q place earlier counts seen j checks map at ≡ fault n o
      unfolding rest_masks
      check-fault h e = masks-fault bs c.m c.p _ j map at h e

      pub check-turn : {v : ℕ} → j < c.p → standing_mask bs at c.m (map % 2) ≡ value v
          → rest_masks i count q place earlier counts seen j checks map at
          ≡ rest_masks i count q place earlier counts (seen ++ (v ∷ [])) (j + 1) (set checks (check_start i q + j) v) (map / 2) (at + map % 2 * 4)
      unfolding rest_masks store
      check-turn {v} h e =
          masks-turn bs c.m c.p judged_with j map at h e
          ∙ next-same (read_masks bs c.m (c.p - (j + 1)) (map / 2) (at + map % 2 * 4))
          (λ vs at₁.
          ap (λ ws. rest_judged i count q place earlier ws counts (store (check_start i q + j + 1) vs (set checks (check_start i q + j) v)) at₁) (sym (append_assoc seen (v ∷ []) vs))
          ∙ ap (λ a. rest_judged i count q place earlier ((seen ++ (v ∷ [])) ++ vs) counts (store a vs (set checks (check_start i q + j) v)) at₁) (add_assoc (check_start i q) j 1))

      check-end : c.p ≤ j → rest_masks i count q place earlier counts seen j checks map at ≡ rest_judged i count q place earlier seen counts checks at
      unfolding rest_masks store
      check-end h =
          masks-end bs c.m c.p judged_with j map at h ∙ ap (λ ws. rest_judged i count q place earlier ws counts checks at) (append-nil seen)

      -- the check is whole, and is judged
      pub check-stands : c.p ≤ j → judge_after c i earlier seen ≡ 0
          → rest_masks i count q place earlier counts seen j checks map at ≡ rest_checks i count (q + 1) (seen ∷ earlier) counts checks at
      unfolding rest_judged
      check-stands h z = check-end h ∙ rw (eq-eqb _ 0 z)

      pub check-fails : {n : ℕ} → c.p ≤ j → judge_after c i earlier seen ≡ n → (n ≡ 0 → ⊥) → rest_masks i count q place earlier counts seen j checks map at ≡ fault n place
      unfolding rest_judged
      check-fails h e z = check-end h ∙ rw e (rw (ne_eqb _ 0 z))
