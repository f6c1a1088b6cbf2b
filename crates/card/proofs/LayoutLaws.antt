-- Laws of the layout: the digits of a map, the map and the masks of two parts of a list, the head and what follows it.
use Prim.Native.Nat.{ℕ, suc, ◌+◌, ◌*◌, ◌/◌, ◌%◌, ◌^◌, ◌<◌}
use mathlib.Core.Path.{◌≡◌, refl, sym, ap, ◌∙◌}
use mathlib.Core.Bool.{cond}
use mathlib.Core.List.{List, [], ◌∷◌, ◌++◌, append_assoc}
use mathlib.Core.Logic.{⊎_elim}
use native.Mathlib.Nat.{pow-succ', pow-suc, zero-mul}
use native.Mathlib.Omega.{arith}
use lib.ListN.{length, length-append}
use lib.Dec.{eqb}
use lib.Pow.{pow_pos, mod-pow-add, split}
use lib.Arith.{mod-mul, digits_div, digits_mod}
use borrow.Author.Tests.{eq-eqb, ne_eqb}
use Rattle.bits.proofs.Cases.{same_or_not}
use Rattle.card.specs.Fields.{Head}
use Rattle.card.specs.Layout.{bytes4, stands, map_of, layout_masks, optional, layout_head, all_rows, AllMasksIn}

-- ---- the lowest digits of a map
pub digit-first : (n d : ℕ) → n % 2 ^ suc d ≡ n % 2 + 2 * (n / 2 % 2 ^ d)
digit-first n d = ap (λ k. n % k) (pow-suc 2 d) ∙ mod-mul n (pow_pos d) (omega arith) ∙ (omega arith)

pub digits-first : (n p d : ℕ) → n % 2 ^ (suc d * p) ≡ n % 2 ^ p + 2 ^ p * (n / 2 ^ p % 2 ^ (d * p))
digits-first n p d =
    let q : suc d * p ≡ d * p + p = omega arith in
    ap (λ k. n % 2 ^ k) q ∙ mod-pow-add n (d * p) p ∙ (omega arith)

pub whole-map : (n d : ℕ) → n / 2 ^ d ≡ 0 → n % 2 ^ d ≡ n
whole-map n d e = let q = split n d in omega (arith, rw (e, zero-mul) at q)

-- ---- the map of a list
stands-digit : (v : ℕ) → stands v < 2
unfolding stands
stands-digit v = ⊎_elim (λ q. rw (eq-eqb v 0 q) (omega arith)) (λ q. rw (ne_eqb v 0 q) (omega arith)) (same_or_not v 0)

pub map-lt : (vs : List ℕ) → map_of vs < 2 ^ length vs
unfolding map_of
map-lt [] = omega arith
map-lt (v ∷ vs) = let i = map-lt vs in let q = pow-succ' 2 (length vs) in let d = stands-digit v in omega arith

-- its first digit, and the others
pub map-digits : (v : ℕ) (vs : List ℕ) (map : ℕ) → map % 2 ^ suc (length vs) ≡ map_of (v ∷ vs)
    → (map % 2 ≡ stands v) × (map / 2 % 2 ^ length vs ≡ map_of vs)
unfolding map_of
map-digits v vs map e = let z = digit-first map (length vs) in let d = stands-digit v in (omega arith, omega arith)

pub map-append : (vs ws : List ℕ) → map_of (vs ++ ws) ≡ map_of vs + 2 ^ length vs * map_of ws
unfolding map_of
map-append [] ws = omega arith
map-append (v ∷ vs) ws = let i = map-append vs ws in let q = pow-succ' 2 (length vs) in rw (q, i) (omega arith)

pub map-parts : (vs ws : List ℕ) → (map_of (vs ++ ws) % 2 ^ length vs ≡ map_of vs) × (map_of (vs ++ ws) / 2 ^ length vs ≡ map_of ws)
map-parts vs ws =
    let b : map_of (vs ++ ws) ≡ map_of ws * 2 ^ length vs + map_of vs = map-append vs ws ∙ (omega arith) in
    (ap (λ n. n % 2 ^ length vs) b ∙ digits_mod (map_of ws) (map-lt vs), ap (λ n. n / 2 ^ length vs) b ∙ digits_div (map_of ws) (map-lt vs))

-- ---- the masks
pub masks-append : (vs ws : List ℕ) → layout_masks (vs ++ ws) ≡ layout_masks vs ++ layout_masks ws
unfolding layout_masks
masks-append [] ws = refl
masks-append (v ∷ vs) ws = rw (masks-append vs ws) (sym (append_assoc (cond (eqb v 0) [] (bytes4 v)) (layout_masks vs) (layout_masks ws)))

pub rows_long : (p m : ℕ) (rows : List (List ℕ)) → AllMasksIn p m rows → length (all_rows rows) ≡ length rows * p
unfolding all_rows
rows_long p m [] a = omega arith
rows_long p m (vs ∷ rows) a = length-append vs (all_rows rows) ∙ (let i = rows_long p m rows a.1 in let n = a.0.many in omega arith)

-- ---- the head, and the bytes after it
pub head-append : (h : Head) (l : List ℕ)
    → (h.k_stands + 2 * h.n_stands) ∷ (h.number ∷ (optional h.k_stands h.k ++ (optional h.n_stands h.n ++ (h.m ∷ l)))) ≡ layout_head h ++ l
unfolding layout_head
head-append h l = simp append_assoc
