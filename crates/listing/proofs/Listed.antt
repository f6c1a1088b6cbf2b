-- The promise of `list`, from what was written.
use Prim.Native.Nat.{ℕ, min, ◌≤◌, ◌<◌}
use mathlib.Core.Path.{◌≡◌, refl, sym, ap, ◌∙◌}
use mathlib.Core.List.{List}
use native.Mathlib.Omega.{arith}
use mathlib.Core.Logic.{⊎_elim}
use lib.ListN.{length, take, drop, drop_of_length-le}
use lib.Seq.{take_all, drop-length}
use Rattle.bits.proofs.Cases.{le-or-lt}
use Rattle.outcomes.specs.Listing.{listing}
use Rattle.outcomes.proofs.Listings.{front-decides}
use Rattle.listing.specs.Promise.{Lists}
use Rattle.outcomes.specs.declared.cursor.Cursor.{Cursor}
use Rattle.listing.specs.Written.{StoredLine}
use Rattle.listing.proofs.AtFront.{front-stored}

pub lists : {before after : Cursor} {input output : List ℕ} → StoredLine 458784 before after (listing input)
    → (before.output.now ≡ output) × (before.at ≡ 0) → 458784 ≤ length output → Lists input output after.at after.output.now
lists w front o =
    record { listed = front-stored 458784 refl w front (omega arith) o; by_the_front = λ whole q. front-decides whole ∙ ap listing (sym q) }

-- ---- the parts that an input is cut into, each as long as it can be
module _ (l : List ℕ) (n : ℕ) where
  pub take-held : take (min (length l) n) l ≡ take n l
  take-held =
      ⊎_elim (λ (h : n ≤ length l). let e : min (length l) n ≡ n = omega arith in ap (λ m. take m l) e)
      (λ (h : length l < n). let e : min (length l) n ≡ length l = omega arith in ap (λ m. take m l) e ∙ take_all (length l) l (omega arith) ∙ sym (take_all n l (omega arith)))
      (le-or-lt n (length l))

  pub drop-held : drop (min (length l) n) l ≡ drop n l
  drop-held =
      ⊎_elim (λ (h : n ≤ length l). let e : min (length l) n ≡ n = omega arith in ap (λ m. drop m l) e)
      (λ (h : length l < n). let e : min (length l) n ≡ length l = omega arith in ap (λ m. drop m l) e ∙ drop-length l ∙ sym (drop_of_length-le l (omega arith)))
      (le-or-lt n (length l))
