-- No syndrome is in two checks of a stream, since its parity error would be touched by both. So a stream has no more votes than there are syndromes of 1, and
-- where these are few, nothing is decided to be wrong.
use Prim.Native.Nat.{ℕ, ◌+◌, ◌-◌, ◌*◌, ◌^◌, ◌≤◌, ◌<◌, min}
use mathlib.Core.Path.{◌≡◌, ap, ap₂, ◌∙◌}
use mathlib.Core.Bool.{cond}
use mathlib.Core.Logic.{⊎_elim}
use mathlib.Core.List.{List}
use native.Mathlib.Nat.{mod-le, le_trans, le_of_eq, mul-le-mul_right, add-sub_cancel_left}
use native.Mathlib.Omega.{arith}
use lib.ListN.{get_or}
use lib.Dec.{ltb}
use borrow.Author.Tests.{le-ltb}
use Rattle.bits.specs.Sums.{sum_below}
use Rattle.bits.specs.Digits.{bit, dot, from_digits}
use Rattle.bits.proofs.Sums.{sum-none, sum_mono, sum-swap, sum-scale, at_most_one}
use Rattle.bits.proofs.Cases.{le-or-lt}
use Rattle.bits.proofs.Digits.{bit_le, bit_high}
use Rattle.code.specs.Checks.{count, check_mask, touches, touches_by, touches_info}
use Rattle.code.specs.Limits.{most_checks, check_start}
use Rattle.code.specs.Guarantees.{Guarantees}
use Rattle.code.specs.declared.Card.{Card}
use Rattle.vote.specs.Voting.{majority_by, check_by, votes_by, decide_by_all}

module _ (c : Card) (G : Guarantees c) where
  -- a parity error is touched by the checks that have its syndrome
  touches-parity : (i q j a : ℕ) → touches c i q a (c.k + j) ≡ bit (check_mask c i q j) a
  unfolding touches touches_by
  touches-parity i q j a =
      ap (λ b. cond b (touches_info c (check_mask c i q) a (c.k + j)) (bit (check_mask c i q (c.k + j - c.k)) a)) (le-ltb (c.k + j) c.k (omega arith))
      ∙ ap (λ n. bit (check_mask c i q n) a) (add-sub_cancel_left c.k j)

  -- at most one of a stream's checks has it
  once : (i j a : ℕ) → i < c.k → j < c.p → sum_below (count c i) (λ q. bit (check_mask c i q j) a) ≤ 1
  unfolding check_mask
  once i j a hi hj =
      ⊎_elim
      (λ (l : a ≤ c.m).
      at_most_one (count c i) _ (λ q lq. bit_le _ a)
      (λ q r lq lr e f.
      (G.orthogonal i hi).apart a (c.k + j) q r l (omega arith) (λ z w. absurd (omega arith)) lq lr (touches-parity i q j a ∙ e) (touches-parity i r j a ∙ f)))
      (λ (l : c.m < a).
      let z = sum-none (count c i) (λ q. bit (get_or c.checks (check_start i q + j) 0) a) (λ q lq. bit_high _ (c.m + 1) a (G.checks_within (check_start i q + j)) (omega arith)) in
      omega (arith, z))
      (le-or-lt a c.m)

  module _ (syndromes : List ℕ) where
    -- how many syndromes are 1
    abbrev pub ones_held : ℕ
    ones_held = sum_below c.p (λ j. sum_below 32 (λ a. bit (get_or syndromes j 0) a))

    -- a syndrome of 1 is one vote at most
    of_one : (i j a : ℕ) → i < c.k → j < c.p
        → sum_below (count c i) (λ q. bit (get_or c.checks (check_start i q + j) 0) a * bit (get_or syndromes j 0) a) ≤ bit (get_or syndromes j 0) a
    unfolding check_mask
    of_one i j a hi hj =
        let d = bit (get_or syndromes j 0) a in
        let l = mul-le-mul_right d (once i j a hi hj) in
        omega (arith, l, sum-scale (count c i) (λ q. bit (get_or c.checks (check_start i q + j) 0) a) d)

    votes-few : (i : ℕ) → i < c.k → votes_by c.checks i (count c i) syndromes c.p ≤ ones_held
    unfolding votes_by check_by dot
    votes-few i hi =
        let f : ℕ → ℕ → ℕ → ℕ = λ q j a. bit (get_or c.checks (check_start i q + j) 0) a * bit (get_or syndromes j 0) a in
        let n = count c i in
        le_trans (sum_mono n _ (λ q. sum_below c.p (λ j. sum_below 32 (f q j))) (λ q lq. mod-le _ 2))
        (le_trans (le_of_eq (sum-swap n c.p (λ q j. sum_below 32 (f q j))))
        (sum_mono c.p _ _
        (λ j hj.
        le_trans (le_of_eq (sum-swap n 32 (λ q a. f q j a)))
        (sum_mono 32 _ _ (λ a la. of_one i j a hi hj)))))

    pub decide-few : ((i : ℕ) → i < c.k → 2 * ones_held ≤ count c i) → decide_by_all c.counts c.checks syndromes c.k c.p ≡ 0
    unfolding decide_by_all majority_by from_digits count
    decide-few few =
        sum-none (min c.k 4) _
        (λ i l.
        let ep : min c.p 8 ≡ c.p = omega (arith, G.n_most) in
        let en : min (get_or c.counts i 0) most_checks ≡ count c i = omega (arith, G.j_most i) in
        let v = votes-few i (omega arith) in
        ap (λ d. d * 2 ^ i)
        (ap₂ (λ n p. cond (ltb n (2 * votes_by c.checks i n syndromes p)) 1 0) en ep
        ∙ ap (λ b. cond b 1 0) (le-ltb (count c i) (2 * votes_by c.checks i (count c i) syndromes c.p) (omega (arith, v, few i (omega arith)))))
        ∙ omega arith)
