-- Bytes put into an output: nothing, one part after the other, and all from the front on.
use Prim.Native.Nat.{ℕ, suc, min, ◌+◌, ◌-◌, ◌^◌, ◌≤◌, ◌<◌}
use mathlib.Core.Path.{◌≡◌, refl, sym, ap, ap₂, subst, ◌∙◌}
use mathlib.Core.List.{List, [], ◌∷◌, ◌++◌}
use native.Mathlib.Nat.{add-zero, zero-add, add-suc, suc-add}
use mathlib.Core.Logic.{⊎_elim}
use native.Mathlib.Omega.{arith}
use lib.ListN.{length, drop, set, length-append}
use lib.Seq.{set_out, sets, sets-eq, length-sets}
use Rattle.bits.proofs.Cases.{le-or-lt}
use Rattle.outcomes.specs.Wrote.{Stored}
use Rattle.outcomes.specs.declared.cursor.Cursor.{Cursor}

pub sets-append : (l : List ℕ) (i : ℕ) (s t : List ℕ) → sets (sets l i s) (i + length s) t ≡ sets l i (s ++ t)
sets-append l i [] t = ap (λ (n : ℕ). sets l n t) (add-zero i)
sets-append l i (x ∷ s) t =
    ap (λ (n : ℕ). sets (sets (set l i x) (suc i) s) n t) (add-suc i (length s) ∙ sym (suc-add i (length s)))
    ∙ sets-append (set l i x) (suc i) s t

sets-beyond : (l : List ℕ) (i : ℕ) (s : List ℕ) → length l ≤ i → sets l i s ≡ l
sets-beyond l i [] h = refl
sets-beyond l i (x ∷ s) h = ap (λ (m : List ℕ). sets m (suc i) s) (set_out l i x h) ∙ sets-beyond l (suc i) s (omega arith)

-- a place that is held to the largest number is beyond the end too
sets-held : (l : List ℕ) (at n most : ℕ) (s : List ℕ) → length l ≤ most → sets l (at + min n (most - at)) s ≡ sets l (at + n) s
sets-held l at n most s h =
    ⊎_elim (λ (below : at + n ≤ most). let e : at + min n (most - at) ≡ at + n = omega arith in ap (λ (i : ℕ). sets l i s) e)
    (λ (above : most < at + n). sets-beyond l (at + min n (most - at)) s (omega arith) ∙ sym (sets-beyond l (at + n) s (omega arith)))
    (le-or-lt (at + n) most)

-- ---- by a cursor
pub stored-nothing : (c : Cursor) → length c.output.now < 2 ^ 63 → Stored c c []
stored-nothing c most = record { same_output = refl; length_most = most; output_is = refl; at_is = omega arith }

pub stored-both : {before between after : Cursor} {s t : List ℕ} → Stored before between s → Stored between after t → Stored before after (s ++ t)
stored-both {before} {between} {s = s} {t} v w =
    record {
      same_output = w.same_output ∙ v.same_output;
      length_most = v.length_most;
      output_is = w.output_is ∙ ap₂ (λ (l : List ℕ) (n : ℕ). sets l n t) v.output_is v.at_is
          ∙ sets-held (sets before.output.now before.at s) before.at (length s) (2 ^ 64 - 1) t (omega (arith, v.length_most, length-sets before.output.now before.at s))
          ∙ sets-append before.output.now before.at s t;
      at_is = omega (arith, v.at_is, w.at_is, length-append s t);
    }

pub stored-as : {before after : Cursor} {s t : List ℕ} → s ≡ t → Stored before after s → Stored before after t
stored-as {before} {after} e w = subst (λ (x : List ℕ). Stored before after x) e w

pub stored-length : {before after : Cursor} {s : List ℕ} → Stored before after s → length after.output.now ≡ length before.output.now
stored-length {before} {s = s} w = ap length w.output_is ∙ length-sets before.output.now before.at s

-- behind what was put nothing yet
pub stored-still : {before after : Cursor} {s : List ℕ} → Stored before after s → Stored after after []
stored-still {after = after} w = stored-nothing after (omega (arith, stored-length w, w.length_most))

-- from the front on, where there is room for them all: the bytes, and the rest of the output as it was
pub stored-front : {before after : Cursor} {s : List ℕ} → Stored before after s → before.at ≡ 0 → length s ≤ length before.output.now
    → after.output.now ≡ s ++ drop (length s) before.output.now
stored-front {before} {s = s} w front room =
    w.output_is
    ∙ ap (λ (n : ℕ). sets before.output.now n s) front
    ∙ sets-eq s before.output.now 0 (omega arith)
    ∙ ap (λ (n : ℕ). s ++ drop n before.output.now) (zero-add (length s))
