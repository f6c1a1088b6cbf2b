-- What the loop of the pass keeps, the streams below s worked out, and what it leaves: the judgement, and the errors added.
use Prim.Native.Nat.{ℕ, ◌+◌, ◌*◌, ◌%◌, ◌^◌, ◌≤◌, ◌<◌, zero-le, min, max}
use mathlib.Core.Path.{◌≡◌, refl, sym, ap, ◌∙◌}
use mathlib.Core.List.{List, ◌++◌}
use mathlib.Core.Logic.{⊎_elim}
use native.Mathlib.Nat.{zero-mul, mod-eq_of_lt, le_antisymm}
use native.Mathlib.Omega.{arith}
use lib.ListN.{length, get_or, set, drop, replicate, length-set}
use lib.Seq.{get_or-set_same, get_or-set_other}
use lib.Bits.{bit_or, or_lt}
use borrow.Author.Tests.{eq-eqb, ne_eqb}
use Rattle.bits.specs.Sums.{sum_below, up_to}
use Rattle.bits.specs.Digits.{bit, from_digits}
use Rattle.bits.proofs.Cases.{le-or-lt, same_or_not}
use Rattle.bits.proofs.Sums.{sum-none, none_of-sum, sum_more}
use Rattle.bits.proofs.Lists.{zeros-at, part_at, part-rest}
use Rattle.bits.proofs.Digits.{bit_le, bit-zero, bit-of-zero, bit-or, from_digits-bits}
use Rattle.code.specs.Checks.{touches_by, besides}
use Rattle.code.specs.Judging.{clashes, judge}
use Rattle.orthogonal.specs.Pass.{holds, Touched, Clash, Passed, word_code, first_masks}
use Rattle.orthogonal.proofs.WordCode.{touches-beyond}

-- the errors of the first n streams added to those of before
abbrev pub with_errors : ℕ → List ℕ → List ℕ → List ℕ
with_errors n errors before = up_to n (λ s. bit_or (get_or before s 0) (get_or errors s 0)) ++ drop n before

module _ (generators masks before : List ℕ) (k p i : ℕ) where
  -- 1 if the check touches the error (b, s)
  abbrev touch : ℕ → ℕ → ℕ
  touch b s = touches_by (word_code generators k p) (first_masks p masks) b s

  -- 1 if it touches it again, and it is not that of the own digit
  abbrev clash : ℕ → ℕ → ℕ
  clash b s = besides i b s * (touch b s * holds before b s)

  pub record Worked (errors : List ℕ) (again s : ℕ) : Type 0 where
    pub most : s ≤ k + p
    pub long : length errors ≡ 8
    pub done : (q b : ℕ) → q < s → b < 32 → bit (get_or errors q 0) b ≡ touch b q
    pub left : (q : ℕ) → s ≤ q → get_or errors q 0 ≡ 0
    pub word : again < 2 ^ 32
    pub clashing : (b : ℕ) → b < 32 → bit again b ≡ min 1 (sum_below s (clash b))

  pub worked-first : Worked (replicate 8 0) 0 0
  unfolding sum_below
  worked-first =
      record {
        most = zero-le;
        long = refl;
        done = λ q b h l. absurd (omega arith);
        left = λ q h. zeros-at 8 q;
        word = omega arith;
        clashing = λ b l. bit-of-zero b;
      }

  module _ {errors : List ℕ} {again s : ℕ} (w : Worked errors again s) where
    -- one stream more: e are its errors, a those of them that were touched before, the own digit's left out
    pub worked-next : (e a : ℕ) → k + p ≤ 8 → s < k + p → Touched (word_code generators k p) (first_masks p masks) s e
        → a < 2 ^ 32 → Clash i s e (get_or before s 0) a → Worked (set errors s e) (bit_or again a) (s + 1)
    unfolding holds
    worked-next e a n l he ha hb =
        record {
          most = omega arith;
          long = length-set errors s e ∙ w.long;
          done = λ q b h lb.
              ⊎_elim
              (λ same. ap (λ x. bit (get_or (set errors s e) x 0) b) same ∙ ap (λ x. bit x b) (get_or-set_same errors s e 0 (omega (arith, w.long))) ∙ he.touches_are b lb ∙ ap (touch b) (sym same))
              (λ other. ap (λ x. bit x b) (get_or-set_other errors s q e 0 other) ∙ w.done q b (omega arith) lb)
              (same_or_not q s);
          left = λ q h. get_or-set_other errors s q e 0 (λ z. absurd (omega arith)) ∙ w.left q (omega arith);
          word = or_lt 32 again a w.word ha;
          clashing = λ b lb. bit-or again a b ∙ more b lb;
        }
      where
        here : (b : ℕ) → b < 32 → bit a b ≡ clash b s
        here b lb = hb.both_are b ∙ ap (λ x. besides i b s * (x * bit (get_or before s 0) b)) (he.touches_are b lb)

        more : (b : ℕ) → b < 32 → max (bit again b) (bit a b) ≡ min 1 (sum_below (s + 1) (clash b))
        more b lb = omega (arith, w.clashing b lb, here b lb, bit_le a b, sum_more s (clash b))

    module _ (whole : k + p ≤ s) where
      all_done : s ≡ k + p
      all_done = le_antisymm w.most whole

      -- ---- the own digit
      own_is : get_or errors i 0 % 2 ≡ touch 0 i
      own_is =
          ⊎_elim
          (λ h. ap (λ x. x % 2) (w.left i h) ∙ sym (touches-beyond generators masks k p 0 i (omega (arith, all_done))))
          (λ h. sym (bit-zero (get_or errors i 0)) ∙ w.done i 0 h (omega arith))
          (le-or-lt s i)

      -- ---- the clashes
      none-again : again ≡ 0 → clashes (word_code generators k p) i (first_masks p masks) (holds before) ≡ 0
      unfolding clashes
      none-again z =
          sum-none 32 _ (λ b l.
          let e : sum_below s (clash b) ≡ 0 = omega (arith, w.clashing b l, ap (λ x. bit x b) z, bit-of-zero b) in
          ap (λ n. sum_below n (clash b)) (sym all_done) ∙ e)

      again-none : clashes (word_code generators k p) i (first_masks p masks) (holds before) ≡ 0 → again ≡ 0
      unfolding clashes from_digits
      again-none e =
          sym (from_digits-bits 32 again ∙ mod-eq_of_lt w.word)
          ∙ sum-none 32 _ (λ b l.
          let z : sum_below s (clash b) ≡ 0 = ap (λ n. sum_below n (clash b)) all_done ∙ none_of-sum 32 _ e b l in
          let d : bit again b ≡ 0 = omega (arith, w.clashing b l) in
          ap (λ x. x * 2 ^ b) d ∙ zero-mul (2 ^ b))

      -- ---- what the pass gives
      pub own-untouched : get_or errors i 0 % 2 ≡ 0 → Passed (word_code generators k p) i (first_masks p masks) before 8 before
      unfolding judge
      own-untouched z =
          record {
            number_is = sym (rw (ne_eqb (touch 0 i) 1 (λ o. absurd (omega (arith, own_is)))));
            added = λ z b s lb ls. absurd (omega arith);
            kept = λ z. refl;
          }

      module _ (own : get_or errors i 0 % 2 ≡ 0 → ⊥) where
        own-touched : touch 0 i ≡ 1
        own-touched = omega (arith, own_is)

        pub touched-before : 0 < again → Passed (word_code generators k p) i (first_masks p masks) before 9 before
        unfolding judge
        touched-before h =
            record {
              number_is = sym (rw (eq-eqb _ 1 own-touched, ne_eqb (clashes (word_code generators k p) i (first_masks p masks) (holds before)) 0 (λ z. absurd (omega (arith, again-none z)))));
              added = λ z b s lb ls. absurd (omega arith);
              kept = λ z. refl;
            }

        pub stands : again ≤ 0 → {n : ℕ} → n ≡ k + p → {after : List ℕ} → after ≡ with_errors n errors before
            → Passed (word_code generators k p) i (first_masks p masks) before 0 after
        unfolding judge holds
        stands h {n} all {after} e =
            record {
              number_is = sym (rw (eq-eqb _ 1 own-touched, eq-eqb _ 0 (none-again (omega arith))));
              added = λ z b s lb ls. ap (λ x. bit (get_or x s 0) b) (e ∙ ap (λ x. with_errors x errors before) all) ∙ ⊎_elim (beyond b s) (within b s lb) (le-or-lt (k + p) s);
              kept = λ z. absurd (z refl);
            }
          where
            within : (b s : ℕ) → b ≤ 31 → s < k + p → bit (get_or (with_errors (k + p) errors before) s 0) b ≡ max (bit (get_or before s 0) b) (touch b s)
            within b s lb ls =
                ap (λ x. bit x b) (part_at (λ q. bit_or (get_or before q 0) (get_or errors q 0)) before (k + p) s ls)
                ∙ bit-or (get_or before s 0) (get_or errors s 0) b
                ∙ ap (max (bit (get_or before s 0) b)) (w.done s b (omega (arith, all_done)) (omega arith))

            beyond : (b s : ℕ) → k + p ≤ s → bit (get_or (with_errors (k + p) errors before) s 0) b ≡ max (bit (get_or before s 0) b) (touch b s)
            beyond b s ls =
                ap (λ x. bit x b) (part-rest (λ q. bit_or (get_or before q 0) (get_or errors q 0)) before (k + p) s ls)
                ∙ omega (arith, touches-beyond generators masks k p b s ls)
