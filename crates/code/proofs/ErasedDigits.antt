-- The registers of erased digits hold the erased digits of whole streams, from the frame that is decided next on.
use Prim.Native.Nat.{ℕ, suc, ◌+◌, ◌/◌, ◌≤◌, ◌<◌, min}
use mathlib.Core.Path.{◌≡◌, sym, ap, ◌∙◌}
use mathlib.Core.Logic.{⊎_elim}
use mathlib.Core.List.{List}
use native.Mathlib.Omega.{arith}
use lib.ListN.{length, get_or, replicate}
use borrow.Author.Tests.{eq-eqb, ne_eqb}
use Rattle.bits.specs.Digits.{bit}
use Rattle.bits.proofs.Cases.{le-or-lt, same_or_not}
use Rattle.bits.proofs.Digits.{bit-of-zero}
use Rattle.bits.proofs.Held.{held, held_in, held_out, put_in, moved}
use Rattle.code.specs.Code.{digit}
use Rattle.code.specs.declared.Card.{Card}
use Rattle.code.proofs.StreamRegisters.{DigitsAt, digits-length, moved_length, digits-start, digits-next, digits-moved}
use Rattle.code.specs.ErasedDigits.{any_with, erased_with, erased_moved}

-- the registers of n streams hold which digits of times u to t - 1 are erased, and `any` whether there is one at each time
pub record ErasedAt (n : ℕ) (erased : List ℕ) (u t : ℕ) (y : List ℕ) (any : ℕ) : Type 0 where
  pub long : n ≤ length y
  pub marks-are : DigitsAt n erased u t y
  pub any-is : (a : ℕ) → bit any a ≡ held (λ v. min (get_or erased v 0) 1) u t a

module _ (n : ℕ) (erased : List ℕ) where
  pub erased-start : n ≤ 8 → (u : ℕ) → ErasedAt n erased u 0 (replicate 8 0) 0
  erased-start most u =
      record {
        long = most;
        marks-are = digits-start n erased u;
        any-is = λ a. bit-of-zero a ∙ sym (held_out (λ v. min (get_or erased v 0) 1) u 0 a (omega arith));
      }

  -- where `any` is 0, nothing is erased at the times held
  module _ (u t any : ℕ) (A : (a : ℕ) → bit any a ≡ held (λ v. min (get_or erased v 0) 1) u t a) (z : any ≡ 0) where
    frame-none : (a : ℕ) → u + a < t → get_or erased (u + a) 0 ≡ 0
    frame-none a l =
        let h : min (get_or erased (u + a) 0) 1 ≡ 0 =
        sym (held_in (λ v. min (get_or erased v 0) 1) u t a l) ∙ sym (A a) ∙ ap (λ (x : ℕ). bit x a) z ∙ bit-of-zero a in
        omega arith

    digit-none : (s a : ℕ) → u + a < t → digit erased s (u + a) ≡ 0
    unfolding digit
    digit-none s a l = ap (λ (x : ℕ). bit x s) (frame-none a l) ∙ bit-of-zero s

    held_none : (s a : ℕ) → held (digit erased s) u t a ≡ 0
    held_none s a =
        ⊎_elim (λ (l : t ≤ u + a). held_out (digit erased s) u t a l) (λ (l : u + a < t). held_in (digit erased s) u t a l ∙ digit-none s a l) (le-or-lt t (u + a))

  module _ (u t : ℕ) (y : List ℕ) (any : ℕ) (E : ErasedAt n erased u t y any) where
    -- the marks of the frame of time t, put in at their place
    pub erased-next : (place f : ℕ) → u + place ≡ t → place < 32 → f ≡ get_or erased t 0
        → ErasedAt n erased u (suc t) (erased_with y any f place) (any_with any f place)
    erased-next place f hp lp hf =
        ⊎_elim
        (λ (z : any_with any f place ≡ 0). rw (eq-eqb _ 0 z) (record { long = E.long; marks-are = still z; any-is = any_next }))
        (λ (z : any_with any f place ≡ 0 → ⊥).
        rw (ne_eqb _ 0 z)
        (record {
          long = omega (arith, digits-length y f place, E.long);
          marks-are = digits-next n erased u t y E.long E.marks-are place f hp lp hf;
          any-is = any_next;
        }))
        (same_or_not (any_with any f place) 0)
      where
        any_next : (a : ℕ) → bit (any_with any f place) a ≡ held (λ v. min (get_or erased v 0) 1) u (suc t) a
        any_next a =
            put_in (λ v. min (get_or erased v 0) 1) u t any E.any-is (min f 1) place (ap (λ (x : ℕ). min x 1) hf) (omega arith) hp lp a

        -- no digit was erased, and none is
        before : (s a : ℕ) → any_with any f place ≡ 0 → held (digit erased s) u t a ≡ held (digit erased s) u (suc t) a
        before s a z =
            ⊎_elim
            (λ (l : t ≤ u + a). held_out (digit erased s) u t a l ∙ sym (held_none u (suc t) _ any_next z s a))
            (λ (l : u + a < t). held_in (digit erased s) u t a l ∙ sym (held_in (digit erased s) u (suc t) a (omega arith)))
            (le-or-lt t (u + a))

        still : any_with any f place ≡ 0 → DigitsAt n erased u (suc t) y
        still z s a l = E.marks-are s a l ∙ before s a z

    pub erased-moved : ErasedAt n erased (suc u) t (erased_moved y any) (any / 2)
    erased-moved =
        ⊎_elim
        (λ (z : any ≡ 0). rw (eq-eqb _ 0 z) (record { long = E.long; marks-are = still z; any-is = any-moved }))
        (λ (z : any ≡ 0 → ⊥).
        rw (ne_eqb _ 0 z)
        (record {
          long = omega (arith, moved_length y, E.long);
          marks-are = digits-moved n erased u t y E.long E.marks-are;
          any-is = any-moved;
        }))
        (same_or_not any 0)
      where
        any-moved : (a : ℕ) → bit (any / 2) a ≡ held (λ v. min (get_or erased v 0) 1) (suc u) t a
        any-moved a = moved (λ v. min (get_or erased v 0) 1) u t any E.any-is a

        still : any ≡ 0 → DigitsAt n erased (suc u) t y
        still z s a l =
            let h : any / 2 ≡ 0 = omega arith in
            E.marks-are s a l ∙ held_none u t any E.any-is z s a ∙ sym (held_none (suc u) t (any / 2) any-moved h s a)

-- with the frame of time u + m, the last that a decision at u looks at
module _ (c : Card) (erased : List ℕ) (u : ℕ) (y : List ℕ) (any : ℕ) (E : ErasedAt (c.k + c.p) erased u (suc (u + c.m)) y any) where
  -- where `any` is 0, nothing is erased that the decision looks at
  pub none-erased : any ≡ 0 → (b s : ℕ) → b ≤ c.m → s < c.k + c.p → digit erased s (u + b) ≡ 0
  none-erased z b s lb ls = digit-none (c.k + c.p) erased u (suc (u + c.m)) any E.any-is z s b (omega arith)

  -- else the registers hold what is
  pub marks-held : (s b : ℕ) → s < c.k + c.p → b ≤ c.m → bit (get_or y s 0) b ≡ digit erased s (u + b)
  marks-held s b ls lb = E.marks-are s b ls ∙ held_in (digit erased s) u (suc (u + c.m)) b (omega arith)
