-- The rest of a reading from where a loop stands, as a function of the loop's variables; here for masks, whatever follows them.
use Prim.Native.Nat.{ℕ, suc, ◌+◌, ◌-◌, ◌*◌, ◌/◌, ◌%◌, ◌≤◌, ◌<◌}
use mathlib.Core.Path.{◌≡◌, refl}
use mathlib.Core.List.{List, [], ◌∷◌}
use native.Mathlib.Omega.{arith}
use Rattle.card.specs.Reading.{Read, next, read_mapped, standing_mask, read_masks}
use Rattle.card.specs.Reading.Field.{value, bad}
use Rattle.card.specs.Reading.Read.{got, fault}

-- ---- what follows a reading
pub next_is-map : {X B : Type 0} (g : X → B) (r : Read X) → next r (λ x at. got (g x) at) ≡ read_mapped g r
next_is-map g (got x at) = refl
next_is-map g (fault n o) = refl

pub next_map : {X Y B : Type 0} (g : X → Y) (go : Y → ℕ → Read B) (r : Read X) → next (read_mapped g r) go ≡ next r (λ x at. go (g x) at)
next_map g go (got x at) = refl
next_map g go (fault n o) = refl

pub next-next : {X Y B : Type 0} (f : X → ℕ → Read Y) (go : Y → ℕ → Read B) (r : Read X) → next (next r f) go ≡ next r (λ x at. next (f x at) go)
next-next f go (got x at) = refl
next-next f go (fault n o) = refl

pub next-same : {X B : Type 0} {go go₁ : X → ℕ → Read B} (r : Read X) → ((x : X) (at : ℕ) → go x at ≡ go₁ x at) → next r go ≡ next r go₁
next-same (got x at) h = h x at
next-same (fault n o) h = refl

-- ---- counting down
pub one_less : (n i : ℕ) → i < n → n - i ≡ suc (n - (i + 1))
one_less n i h = omega arith

pub none_left : (n i : ℕ) → n ≤ i → n - i ≡ 0
none_left n i h = omega arith

-- ---- masks
module _ {B : Type 0} (bs : List ℕ) (m p : ℕ) (go : List ℕ → ℕ → Read B) (s map at : ℕ) where
  pub masks-turn : {v : ℕ} → s < p → standing_mask bs at m (map % 2) ≡ value v
      → next (read_masks bs m (p - s) map at) go ≡ next (read_masks bs m (p - (s + 1)) (map / 2) (at + map % 2 * 4)) (λ vs at₁. go (v ∷ vs) at₁)
  unfolding read_masks
  masks-turn {v} h e = rw (one_less p s h, e) (next_map (λ vs. v ∷ vs) go (read_masks bs m (p - (s + 1)) (map / 2) (at + map % 2 * 4)))

  pub masks-fault : {n o : ℕ} → s < p → standing_mask bs at m (map % 2) ≡ bad n o → next (read_masks bs m (p - s) map at) go ≡ fault n o
  unfolding read_masks
  masks-fault h e = rw (one_less p s h, e)

  pub masks-end : p ≤ s → next (read_masks bs m (p - s) map at) go ≡ go [] at
  unfolding read_masks
  masks-end h = rw (none_left p s h)
