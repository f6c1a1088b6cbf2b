-- The rows of R-7's band, by computing.
use Prim.Native.Nat.{ℕ, zero, suc, ◌*◌, ◌≤◌}
use mathlib.Core.Path.{◌≡◌, refl, sym, ◌∙◌, subst}
use mathlib.Core.Bool.{Bool, true, false}
use mathlib.Core.List.{List, [], ◌∷◌}
use native.Mathlib.Omega.{arith}
use lib.ListN.{get_or-replicate}
use lib.IntN.{ℤ}
use lib.Ieee.{of_bits, nan, inf, fin, up, down}
use Rattle.receiving.specs.Calls.{readings}
use Rattle.receiving.specs.LevelRows.{levels_of}
use Rattle.receiving.specs.declared.Reading.{Reading}
use Rattle.receiving.specs.declared.Reading.TheVariants.{Level, Erased}
use Rattle.terms.specs.Terms.{read_now, read_before, Outside}
use Rattle.terms.specs.BandRows.{BandRows}

-- a reading that is this level, and one that is none
known : {s₀ : Bool} {m₀ : ℕ} {e₀ : ℤ} → down e₀ ≤ 4 * (m₀ * up e₀) → (sign : Bool) (m : ℕ) (e : ℤ) → Level (fin s₀ m₀ e₀) ≡ Level (fin sign m e) → down e ≤ 4 * (m * up e)
known {m₀ = m₀} {e₀ = e₀} l sign m e q =
    let a : m₀ ≡ m = cc in
    let b : e₀ ≡ e = cc in
    subst (λ (e : ℤ). down e ≤ 4 * (m * up e)) b (subst (λ (m : ℕ). down e₀ ≤ 4 * (m * up e₀)) a l)

erased-none : {sign : Bool} {m : ℕ} {e : ℤ} → Erased ≡ Level (fin sign m e) → ⊥
erased-none q = let z : ◌≡◌ {A = ℕ} 0 1 = cc in omega arith

infinite-none : {s₀ sign : Bool} {m : ℕ} {e : ℤ} → Level (inf s₀) ≡ Level (fin sign m e) → ⊥
infinite-none q = let z : ◌≡◌ {A = ℕ} 0 1 = cc in omega arith

nan-none : {sign : Bool} {m : ℕ} {e : ℤ} → Level nan ≡ Level (fin sign m e) → ⊥
nan-none q = let z : ◌≡◌ {A = ℕ} 0 1 = cc in omega arith

-- the first reading alone is asked of
first-only : (x : Reading) (rest : List Reading) → ((sign : Bool) (m : ℕ) (e : ℤ) → x ≡ Level (fin sign m e) → down e ≤ 4 * (m * up e)) → Outside 1 (readings 7 (x ∷ rest))
unfolding Outside
first-only x rest out zero l = out
first-only x rest out (suc s) l = absurd (omega arith)

infinite : Outside 3 (readings 7 (Level (inf false) ∷ Level (inf true) ∷ Level nan ∷ []))
unfolding Outside
infinite zero l sign m e q = absurd (infinite-none q)
infinite (suc zero) l sign m e q = absurd (infinite-none q)
infinite (suc (suc zero)) l sign m e q = absurd (nan-none q)
infinite (suc (suc (suc s))) l sign m e q = absurd (omega arith)

pub band-rows : BandRows
unfolding of_bits read_now read_before Outside
band-rows =
    record {
      quarters_now = refl;
      quarters_before = refl;
      near_zero_before = refl;
      far_out_before = refl;
      quarter_outside = first-only _ (levels_of (0x3e7f_ffff ∷ [])) (known (omega arith));
      minus_quarter_outside = first-only _ (levels_of (0x3e7f_ffff ∷ [])) (known (omega arith));
      below_a_quarter_within = λ out. let l = out 0 (omega arith) _ _ _ refl in omega arith;
      second_within = λ out. let l = out 1 (omega arith) _ _ _ refl in omega arith;
      erased_outside = λ s l sign m e q. absurd (erased-none (sym (get_or-replicate 8 s Erased (Level nan) l) ∙ q));
      infinite_outside = infinite;
    }
