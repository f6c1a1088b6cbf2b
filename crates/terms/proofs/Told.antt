-- Laws of the page's `first`, `when`, `Told` and `beyond`.
use Prim.Native.Nat.{ℕ, zero, suc, ◌^◌, ◌≤◌, ◌<◌}
use mathlib.Core.Path.{◌≡◌, refl, sym, ap, ◌∙◌}
use mathlib.Core.Bool.{Bool, true, false, cond, ◌||◌}
use mathlib.Core.List.{List, [], ◌∷◌}
use mathlib.Core.Logic.{⊎_elim}
use lib.ListN.{length}
use lib.Dec.{leb, ltb, eqb, eqb-suc-zero}
use lib.IntN.{ℤ, pos, neg_ℤ}
use borrow.Author.Tests.{lt-ltb, le-ltb}
use Rattle.bits.specs.Digits.{any_beyond}
use Rattle.bits.proofs.Cases.{le-or-lt}
use Rattle.card.specs.Outcome.{Outcome, accepted, refused}
use Rattle.outcomes.specs.Outcome.{BurstOutcome, outcome, refused_of, given_of, under_card}
use Rattle.terms.specs.Terms.{when, first, Told, beyond}

pub beyond-is : (n : ℕ) (frames : List ℕ) → beyond n frames ≡ any_beyond n frames
unfolding beyond any_beyond
beyond-is n [] = refl
beyond-is n (f ∷ frames) = ap (λ (b : Bool). leb (2 ^ n) f || b) (beyond-is n frames)

-- what comes of no refusal, and what of one, by its number
module _ {A : Type 0} (none : A) (some : ℕ → A) where
  abbrev pub settled : ℕ → A
  settled number = cond (eqb number 0) none (some number)

  pub settled-some : (n : ℕ) → settled (suc n) ≡ some (suc n)
  settled-some n = rw (eqb-suc-zero n)

  pub by_first : (x y z : ℕ) (a b d : Bool)
      → settled (first (when (suc x) a ∷ when (suc y) b ∷ when (suc z) d ∷ [])) ≡ cond a (some (suc x)) (cond b (some (suc y)) (cond d (some (suc z)) none))
  unfolding first
  by_first x y z true b d = simp eqb-suc-zero
  by_first x y z false true d = simp eqb-suc-zero
  by_first x y z false false true = simp eqb-suc-zero
  by_first x y z false false false = refl

-- what a call comes to: the answer, and the output
pub parts : {answer told : ℤ} {after output : List ℕ} → outcome answer after ≡ outcome told output → (answer ≡ told) × (after ≡ output)
parts e = (ap (λ (b : BurstOutcome). b.answer) e, ap (λ (b : BurstOutcome). b.output) e)

module _ (output : List ℕ) {answer : ℤ} {after : List ℕ} where
  pub refused-told : (n : ℕ) → outcome answer after ≡ refused_of n output → (answer ≡ neg_ℤ (pos n)) × (after ≡ output)
  unfolding refused_of
  refused-told n e = parts e

  module _ (bytes : List ℕ) where
    pub told : (number : ℕ) → outcome answer after ≡ settled (given_of bytes output) (λ n. refused_of n output) number → Told number bytes output answer after
    unfolding Told given_of
    told zero e = parts e
    told (suc n) e = refused-told (suc n) (e ∙ settled-some (given_of bytes output) (λ n. refused_of n output) n)

    -- 13 alone, from what the call comes to with room and without
    pub told-by-room : (length bytes ≤ length output → outcome answer after ≡ given_of bytes output)
        → (length output < length bytes → outcome answer after ≡ refused_of 13 output)
        → Told (first (when 13 (ltb (length output) (length bytes)) ∷ [])) bytes output answer after
    unfolding first
    told-by-room given short =
        ⊎_elim
        (λ (l : length bytes ≤ length output). rw (le-ltb (length output) (length bytes) l) (told 0 (given l)))
        (λ (l : length output < length bytes). rw (lt-ltb (length output) (length bytes) l) (told 13 (short l)))
        (le-or-lt (length bytes) (length output))

    -- 15, 13, 11, or the bytes
    pub told-first : (a b d : Bool)
        → outcome answer after ≡ cond a (refused_of 15 output) (cond b (refused_of 13 output) (cond d (refused_of 11 output) (given_of bytes output)))
        → Told (first (when 15 a ∷ when 13 b ∷ when 11 d ∷ [])) bytes output answer after
    told-first a b d e =
        told (first (when 15 a ∷ when 13 b ∷ when 11 d ∷ [])) (e ∙ sym (by_first (given_of bytes output) (λ n. refused_of n output) 14 12 10 a b d))

  -- a call under what reading its card came to
  module _ (read : Outcome) (burst : BurstOutcome) (e : outcome answer after ≡ under_card read burst output) where
    pub card_refused : (number offset : ℕ) → read ≡ refused number offset → (answer ≡ neg_ℤ (pos number)) × (after ≡ output)
    unfolding under_card
    card_refused number offset q = refused-told number (e ∙ ap (λ (o : Outcome). under_card o burst output) q)

    pub card_accepted : read ≡ accepted → outcome answer after ≡ burst
    unfolding under_card
    card_accepted q = e ∙ ap (λ (o : Outcome). under_card o burst output) q
