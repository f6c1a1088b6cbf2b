-- The pass over a check judges it as the definition does: the words that it is given hold the errors that the earlier checks touch.
use Prim.Native.Nat.{ℕ, ◌+◌, ◌^◌, ◌≤◌, ◌<◌, min}
use mathlib.Core.Path.{◌≡◌, refl, sym, ap, subst, ◌∙◌, fun_ext}
use mathlib.Core.List.{List, [], ◌∷◌}
use mathlib.Core.Logic.{⊎_elim}
use native.Mathlib.Omega.{arith}
use lib.ListN.{length, get_or, take, replicate, length-take, get_or-eq_default}
use lib.Seq.{get_or-take}
use Rattle.bits.specs.Digits.{bit}
use Rattle.bits.proofs.Cases.{le-or-lt}
use Rattle.bits.proofs.Lists.{zeros-at}
use Rattle.bits.proofs.Digits.{bit-of-zero}
use Rattle.code.specs.declared.Card.{Card}
use Rattle.code.proofs.Touches.{touches_by-le}
use Rattle.code.proofs.Judging.{none-same, judge-same}
use Rattle.orthogonal.specs.Pass.{holds, Passed, word_code, information_streams, parity_streams, first_masks}
use Rattle.orthogonal.proofs.Within.{passed-within}
use Rattle.card.specs.Reading.{mask_at, touched_by, judge_after}

-- the words hold the errors that the earlier checks touch
pub record Union (c : Card) (earlier : List (List ℕ)) (touched : List ℕ) : Type 0 where
  pub held : (b s : ℕ) → b ≤ c.m → s < c.k + c.p → holds touched b s ≡ min 1 (touched_by c earlier b s)

pub union-none : (c : Card) → Union c [] (replicate 8 0)
unfolding touched_by holds
union-none c = record { held = λ b s lb ls. ap (λ x. bit x b) (zeros-at 8 s) ∙ bit-of-zero b }

-- a check's p masks vs, which an array of eight holds too
module _ (c : Card) (n_most : c.k + c.p ≤ 8) (m_most : c.m < 32) (vs masks : List ℕ) (many : length vs ≡ c.p)
    (within : (j : ℕ) → get_or vs j 0 < 2 ^ (c.m + 1)) (same : (j : ℕ) → get_or masks j 0 ≡ get_or vs j 0) where
  masks-are : first_masks c.p masks ≡ mask_at vs
  masks-are =
      fun_ext (λ j.
      ⊎_elim
      (λ l.
      get_or-eq_default (take c.p masks) 0 {n = j} (omega (arith, length-take c.p masks))
      ∙ sym (get_or-eq_default vs 0 {n = j} (omega (arith, many))))
      (λ l. get_or-take c.p masks j 0 l ∙ same j)
      (le-or-lt c.p j))

  module _ {i number : ℕ} {touched after : List ℕ}
      (P : Passed (word_code c.generators (information_streams c.k) (parity_streams c.k c.p)) i (first_masks (parity_streams c.k c.p) masks) touched number after) where
    passed : Passed c i (mask_at vs) touched number after
    passed =
        let k-is : information_streams c.k ≡ c.k = omega arith in
        let p-is : parity_streams c.k c.p ≡ c.p = omega arith in
        passed-within c (omega arith) (mask_at vs) within
        (subst (λ (f : ℕ → ℕ). Passed (word_code c.generators c.k c.p) i f touched number after) masks-are
        (subst (λ k. Passed (word_code c.generators k c.p) i (first_masks c.p masks) touched number after) k-is
        (subst (λ p. Passed (word_code c.generators (information_streams c.k) p) i (first_masks p masks) touched number after) p-is P)))

    module _ {earlier : List (List ℕ)} (u : Union c earlier touched) where
      pub judged-same : judge_after c i earlier vs ≡ number
      judged-same =
          sym
          (passed.number_is
          ∙ judge-same c c i (mask_at vs) (mask_at vs) (holds touched) (touched_by c earlier) refl
          (none-same c i (mask_at vs) (λ b s lb ls h. omega (arith, u.held b s lb ls)))
          (none-same c i (mask_at vs) (λ b s lb ls h. omega (arith, u.held b s lb ls))))

      pub judged-union : number ≡ 0 → Union c (vs ∷ earlier) after
      unfolding touched_by
      judged-union z =
          record {
            held = λ b s lb ls.
                passed.added z b s lb (omega arith) ∙ omega (arith, u.held b s lb ls, touches_by-le c (mask_at vs) b s);
          }
