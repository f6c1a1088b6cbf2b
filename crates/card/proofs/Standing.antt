-- The checks of a stream stand, as reading judges them one after another, exactly when they are orthogonal.
use Prim.Native.Nat.{ℕ, zero, suc, ◌+◌, ◌≤◌, ◌<◌}
use mathlib.Core.Path.{◌≡◌}
use mathlib.Core.List.{List, [], ◌∷◌}
use mathlib.Core.Logic.{⊎_elim}
use native.Mathlib.Omega.{arith}
use lib.ListN.{length, get_or}
use Rattle.bits.proofs.Cases.{le-or-lt}
use Rattle.code.specs.Checks.{touches_by}
use Rattle.card.specs.Reading.{mask_at, touched_by, judge_after}
use Rattle.code.specs.declared.Card.{Card}
use Rattle.code.proofs.Touches.{touches_by-le}
use Rattle.code.proofs.Judging.{no-clash, clash-none, judge-none, none-judge}

-- 1 if check q of a list touches the error (b, s)
abbrev pub touches_at : Card → List (List ℕ) → ℕ → ℕ → ℕ → ℕ
touches_at c checks q b s = touches_by c (mask_at (get_or checks q [])) b s

module _ (c : Card) (i : ℕ) where
  -- none of the checks is refused after the earlier ones
  abbrev pub ChecksStand : List (List ℕ) → List (List ℕ) → Type 0
  ChecksStand earlier [] = Unit {0}
  ChecksStand earlier (vs ∷ checks) = (judge_after c i earlier vs ≡ 0) × ChecksStand (vs ∷ earlier) checks

  -- the checks of a list are orthogonal, in the words of `Orthogonal`
  pub record ListOrthogonal (checks : List (List ℕ)) : Type 0 where
    pub own : (q : ℕ) → q < length checks → touches_at c checks q 0 i ≡ 1
    pub apart : (b s q r : ℕ) → b ≤ c.m → s < c.k + c.p → (b ≡ 0 → s ≡ i → ⊥) → q < r → r < length checks
        → touches_at c checks q b s ≡ 1 → touches_at c checks r b s ≡ 1 → ⊥

  -- ---- checks that stand are orthogonal
  own_at : (earlier checks : List (List ℕ)) → ChecksStand earlier checks → (q : ℕ) → q < length checks → touches_at c checks q 0 i ≡ 1
  own_at earlier [] a q h = absurd (omega arith)
  own_at earlier (vs ∷ checks) a zero h = (judge-none c i (mask_at vs) (touched_by c earlier) a.0).0
  own_at earlier (vs ∷ checks) a (suc q) h = own_at (vs ∷ earlier) checks a.1 q (omega arith)

  module _ (b s : ℕ) (b-most : b ≤ c.m) (s-most : s < c.k + c.p) (other : b ≡ 0 → s ≡ i → ⊥) where
    apart_from : (earlier checks : List (List ℕ)) → ChecksStand earlier checks → (q : ℕ) → q < length checks → 1 ≤ touched_by c earlier b s
        → touches_at c checks q b s ≡ 1 → ⊥
    unfolding touched_by
    apart_from earlier [] a q h n e = absurd (omega arith)
    apart_from earlier (vs ∷ checks) a zero h n e =
        clash-none c i (mask_at vs) (touched_by c earlier) b s b-most s-most other (judge-none c i (mask_at vs) (touched_by c earlier) a.0).1 e n
    apart_from earlier (vs ∷ checks) a (suc q) h n e = apart_from (vs ∷ earlier) checks a.1 q (omega arith) (omega arith) e

    apart-at : (earlier checks : List (List ℕ)) → ChecksStand earlier checks → (q r : ℕ) → q < r → r < length checks → touches_at c checks q b s ≡ 1
        → touches_at c checks r b s ≡ 1 → ⊥
    unfolding touched_by
    apart-at earlier [] a q r h l e e₁ = absurd (omega arith)
    apart-at earlier (vs ∷ checks) a q zero h l e e₁ = absurd (omega arith)
    apart-at earlier (vs ∷ checks) a zero (suc r) h l e e₁ = apart_from (vs ∷ earlier) checks a.1 r (omega arith) (omega arith) e₁
    apart-at earlier (vs ∷ checks) a (suc q) (suc r) h l e e₁ = apart-at (vs ∷ earlier) checks a.1 q r (omega arith) (omega arith) e e₁

  pub standing-orthogonal : (checks : List (List ℕ)) → ChecksStand [] checks → ListOrthogonal checks
  standing-orthogonal checks a =
      record {
        own = own_at [] checks a;
        apart = λ b s q r l k other. apart-at b s l k other [] checks a q r;
      }

  -- ---- orthogonal checks stand

  -- no other error is touched by an earlier check and by one of the list
  abbrev ApartFrom : List (List ℕ) → List (List ℕ) → Type 0
  ApartFrom earlier checks =
      (b s q : ℕ) → b ≤ c.m → s < c.k + c.p → (b ≡ 0 → s ≡ i → ⊥) → q < length checks → 1 ≤ touched_by c earlier b s → touches_at c checks q b s ≡ 1 → ⊥

  stand-after : (earlier checks : List (List ℕ)) → ListOrthogonal checks → ApartFrom earlier checks → ChecksStand earlier checks
  stand-after earlier [] o a = tt
  stand-after earlier (vs ∷ checks) o a = (
    none-judge c i (mask_at vs) (touched_by c earlier) (o.own 0 (omega arith))
        (no-clash c i (mask_at vs) (touched_by c earlier) (λ b s l k other e n. a b s 0 l k other (omega arith) n e)),
    stand-after (vs ∷ earlier) checks
        (record {
          own = λ q h. o.own (suc q) (omega arith);
          apart = λ b s q r l k other h h₁ e e₁. o.apart b s (suc q) (suc r) l k other (omega arith) (omega arith) e e₁;
        })
        (λ b s q l k other h n e.
        ⊎_elim
        (λ none. o.apart b s 0 (suc q) l k other (omega arith) (omega arith) (only b s none n) e)
        (λ some. a b s (suc q) l k other (omega arith) some e)
        (le-or-lt (touched_by c earlier b s) 0)),
  )
    where
      only : (b s : ℕ) → touched_by c earlier b s ≤ 0 → 1 ≤ touched_by c (vs ∷ earlier) b s → touches_by c (mask_at vs) b s ≡ 1
      only b s none n = let l = touches_by-le c (mask_at vs) b s in unfold touched_by in (omega arith)

  pub orthogonal-standing : (checks : List (List ℕ)) → ListOrthogonal checks → ChecksStand [] checks
  unfolding touched_by
  orthogonal-standing checks o = stand-after [] checks o (λ b s q l k other h n e. absurd (omega arith))
