-- When a check clashes with earlier ones, and when it is judged to stand.
use Prim.Native.Nat.{ℕ, zero, suc, ◌+◌, ◌*◌, ◌≤◌, ◌<◌}
use mathlib.Core.Path.{◌≡◌, refl}
use mathlib.Core.Logic.{⊎_elim}
use native.Mathlib.Nat.{zero-mul}
use native.Mathlib.Omega.{arith}
use lib.Dec.{eqb}
use borrow.Author.Tests.{eqb-true, eq-eqb, ne_eqb}
use Rattle.bits.proofs.Cases.{picked, same_or_not}
use Rattle.bits.proofs.Sums.{sum-none, none_of-sum}
use Rattle.code.specs.Checks.{touches_by, besides}
use Rattle.code.specs.Judging.{clashes, judge}
use Rattle.code.specs.declared.Card.{Card}
use Rattle.code.proofs.Besides.{besides-other, own-or-other}
use Rattle.code.proofs.Touches.{touches_by-le}

product-none : (d t x : ℕ) → t ≤ 1 → (t ≡ 1 → 1 ≤ x → ⊥) → d * (t * x) ≡ 0
product-none d zero x h n = omega arith
product-none d (suc zero) zero h n = omega arith
product-none d (suc zero) (suc x) h n = absurd (n refl (omega arith))
product-none d (suc (suc t)) x h n = absurd (omega arith)

module _ (c : Card) (i : ℕ) (mask : ℕ → ℕ) (touched : ℕ → ℕ → ℕ) where
  pub no-clash : ((b s : ℕ) → b ≤ c.m → s < c.k + c.p → (b ≡ 0 → s ≡ i → ⊥) → touches_by c mask b s ≡ 1 → 1 ≤ touched b s → ⊥) → clashes c i mask touched ≡ 0
  unfolding clashes
  no-clash h =
      sum-none (suc c.m) _ (λ b l.
      sum-none (c.k + c.p) _ (λ s k.
      ⊎_elim
      (λ q. rw q (zero-mul _))
      (λ q. product-none (besides i b s) (touches_by c mask b s) (touched b s) (touches_by-le c mask b s) (h b s (omega arith) k q))
      (own-or-other i b s)))

  pub clash-none : (b s : ℕ) → b ≤ c.m → s < c.k + c.p → (b ≡ 0 → s ≡ i → ⊥) → clashes c i mask touched ≡ 0 → touches_by c mask b s ≡ 1 → 1 ≤ touched b s → ⊥
  unfolding clashes
  clash-none b s b-most s-most other e t h =
      let z = none_of-sum (c.k + c.p) _ (none_of-sum (suc c.m) _ e b (omega arith)) s s-most in
      let y : 1 * (1 * touched b s) ≡ 0 = rw (besides-other i b s other, t) at z in
      omega arith

  pub judge-none : judge c i mask touched ≡ 0 → (touches_by c mask 0 i ≡ 1) × (clashes c i mask touched ≡ 0)
  unfolding judge
  judge-none e =
      ⊎_elim
      (λ h.
      ⊎_elim
      (λ k. (eqb-true _ 1 h.0, eqb-true _ 0 k.0))
      (λ k. let z = k.1 in absurd (omega arith))
      (picked (eqb (clashes c i mask touched) 0) h.1))
      (λ h. let z = h.1 in absurd (omega arith))
      (picked (eqb (touches_by c mask 0 i) 1) e)

  pub none-judge : touches_by c mask 0 i ≡ 1 → clashes c i mask touched ≡ 0 → judge c i mask touched ≡ 0
  unfolding judge
  none-judge own none = rw (eq-eqb _ 1 own, eq-eqb _ 0 none)

-- only which errors were touched counts, and not how often
module _ (c : Card) (i : ℕ) (mask : ℕ → ℕ) {touched touched₁ : ℕ → ℕ → ℕ} where
  pub none-same : ((b s : ℕ) → b ≤ c.m → s < c.k + c.p → 1 ≤ touched₁ b s → 1 ≤ touched b s) → clashes c i mask touched ≡ 0 → clashes c i mask touched₁ ≡ 0
  none-same h e = no-clash c i mask touched₁ (λ b s lb ls other t l. clash-none c i mask touched b s lb ls other e t (h b s lb ls l))

-- two judgements agree if they agree on the own digit and on whether there is a clash
pub judge-same : (c d : Card) (i : ℕ) (mask mask₁ : ℕ → ℕ) (touched touched₁ : ℕ → ℕ → ℕ) → touches_by c mask 0 i ≡ touches_by d mask₁ 0 i
    → (clashes c i mask touched ≡ 0 → clashes d i mask₁ touched₁ ≡ 0) → (clashes d i mask₁ touched₁ ≡ 0 → clashes c i mask touched ≡ 0)
    → judge c i mask touched ≡ judge d i mask₁ touched₁
unfolding judge
judge-same c d i mask mask₁ touched touched₁ own there back =
    rw own
    (⊎_elim
    (λ z. rw (eq-eqb _ 0 z, eq-eqb _ 0 (there z)))
    (λ n. rw (ne_eqb (clashes c i mask touched) 0 n, ne_eqb (clashes d i mask₁ touched₁) 0 (λ z. n (back z))))
    (same_or_not (clashes c i mask touched) 0))
