-- The rule as the page says it is the rule of `majority`: its votes, its checks, what it decides and hands out, and the condition of the third term.
use Prim.Native.Nat.{ℕ, zero, suc, ◌+◌, ◌-◌, ◌*◌, ◌%◌, ◌/◌, ◌≤◌, ◌<◌, min}
use mathlib.Core.Path.{◌≡◌, refl, sym, ap, ap₂, ◌∙◌, subst}
use mathlib.Core.Bool.{cond}
use mathlib.Core.Logic.{⊎_elim}
use mathlib.Core.List.{List}
use native.Mathlib.Omega.{arith}
use lib.ListN.{length, take}
use lib.Seq.{take_all, take-append-le}
use lib.Dec.{ltb}
use Rattle.bits.specs.Sums.{sum_below, grown}
use Rattle.bits.specs.Digits.{bit}
use Rattle.bits.proofs.Cases.{last-or-below}
use Rattle.bits.proofs.Lists.{grown-length}
use Rattle.bits.proofs.Sums.{sum-cong}
use Rattle.code.specs.Code.{digit, parity_at}
use Rattle.code.specs.Checks.{count, check_mask, touches}
use Rattle.code.specs.Judging.{clashes}
use Rattle.code.specs.Guarantees.{Guarantees}
use Rattle.code.specs.declared.Card.{Card}
use Rattle.majority.specs.Rule as rule
use Rattle.majority.specs.AsSent as sent
use Rattle.majority.specs.Plain.{NoneErased}
use Rattle.majority.proofs.Streams.{decided-digit}
use Rattle.majority.proofs.Plain.{former}
use Rattle.terms.specs.Terms.{own, syndrome, check, votes, Decided, figure, wrong, FewWrong, FewWrongOfVotes}
use Rattle.terms.proofs.Own.{besides-is, own_is}

-- what was worked out first is the front of the whole
grown-front : (f : List ℕ → ℕ → ℕ) (n u : ℕ) → u ≤ n → take u (grown f n) ≡ grown f u
unfolding grown
grown-front f zero u l = let z : u ≡ 0 = omega arith in rw z
grown-front f (suc n) u l =
    ⊎_elim
    (λ (e : u ≡ suc n). take_all u (grown f (suc n)) (omega (arith, grown-length f (suc n))) ∙ ap (grown f) (sym e))
    (λ (below : u < suc n). take-append-le u (grown f n) _ (omega (arith, grown-length f n)) ∙ grown-front f n u (omega arith))
    (last-or-below {i = u} {n = suc n} (omega arith))

sum_of-three : (x y z : ℕ) → (x + y + z) % 2 ≡ ((x + y) % 2 + z) % 2
sum_of-three x y z = omega arith

module _ (c : Card) where
  syndrome-is : (frames errors : List ℕ) (t j : ℕ) → syndrome c frames errors t j ≡ rule.cleared c frames errors t j
  unfolding rule.cleared rule.syndrome
  syndrome-is frames errors t j = sum_of-three (digit frames (c.k + j) t) (parity_at c frames j t) (parity_at c errors j t)

  check-is : (frames errors : List ℕ) (u i q : ℕ) → check c frames errors u i q ≡ rule.check_at c frames errors u i q
  unfolding rule.check_at
  check-is frames errors u i q =
      ap (λ (n : ℕ). n % 2) (sum-cong c.p (λ j. sum-cong (suc c.m) (λ a. ap (λ (d : ℕ). bit (check_mask c i q j) a * d) (syndrome-is frames errors (u + a) j))))

  votes-is : (erased : List ℕ) (u i q : ℕ) → votes c erased u i q ≡ rule.voting c erased u i q
  unfolding rule.voting clashes touches
  votes-is erased u i q =
      ap (λ (n : ℕ). 1 - n)
      (sum-cong (suc c.m) (λ b. sum-cong (c.k + c.p) (λ s. ap (λ (d : ℕ). d * (touches c i q b s * digit erased s (u + b))) (sym (besides-is i b s)))))

  voters-are : (erased : List ℕ) (u i : ℕ) → sum_below (count c i) (votes c erased u i) ≡ rule.voters c erased u i
  unfolding rule.voters
  voters-are erased u i = sum-cong (count c i) (votes-is erased u i)

  -- ---- what is decided
  module _ (frames erased : List ℕ) where
    decided-front : (n u : ℕ) → u ≤ n → take u (rule.decided c frames erased n) ≡ rule.decided c frames erased u
    unfolding rule.decided
    decided-front n u l = grown-front (rule.decide_frame c frames erased) n u l

    pub decided-is : Decided c frames erased (rule.decided c frames erased (length frames - c.m))
    unfolding rule.decide rule.votes
    decided-is u i l li =
        let before = rule.decided c frames erased u in
        decided-digit c frames erased (length frames - c.m) u i l li
        ∙ sym
        (ap₂ (λ (v n : ℕ). cond (ltb v (2 * n)) 1 0) (voters-are erased u i)
        (sum-cong (count c i)
        (λ q. ap₂ (λ (v n : ℕ). v * n) (votes-is erased u i q) (ap (λ (e : List ℕ). check c frames e u i q) (decided-front _ u (omega arith)) ∙ check-is frames before u i q))))

    pub figure-is : rule.figure_by c frames erased ≡ figure c frames (rule.decided c frames erased (length frames - c.m))
    unfolding rule.figure_by
    figure-is =
        let u = length frames - c.m in
        sum-cong c.p
        (λ j. sum-cong (length frames - u)
        (λ a. sym (ap (λ (e : List ℕ). syndrome c frames e (u + a) j) (decided-front u u (omega arith)) ∙ syndrome-is frames (rule.decided c frames erased u) (u + a) j)))

  -- ---- the third term's condition
  module _ (info frames : List ℕ) where
    wrong-is : (s t : ℕ) → wrong c info frames s t ≡ sent.wrong c info frames t s
    unfolding sent.wrong
    wrong-is s t = refl

    half : (w v : ℕ) → 2 * w ≤ v → w ≤ v / 2
    half w v l = omega arith

    pub few-of-votes : (erased : List ℕ) → FewWrongOfVotes c info frames erased → sent.Correctable c info frames erased
    unfolding sent.wrong_touched sent.touched
    few-of-votes erased few u i l li =
        half _ _
        (subst (λ (w : ℕ). 2 * w ≤ rule.voters c erased u i)
        (sum-cong (suc c.m)
        (λ b. sum-cong (c.k + c.p)
        (λ s. ap₂ (λ (x y : ℕ). min 1 x * y)
        (ap₂ (λ (x y : ℕ). x + y) (own_is i b s) (sum-cong (count c i) (λ q. ap (λ (v : ℕ). v * touches c i q b s) (votes-is erased u i q)))) (wrong-is s (u + b)))))
        (subst (λ (v : ℕ). 2 * sum_below (suc c.m) (λ b. sum_below (c.k + c.p) (λ s. min 1 (own i b s + sum_below (count c i) (λ q. votes c erased u i q * touches c i q b s)) * wrong c info frames s (u + b))) ≤ v)
        (voters-are erased u i) (few u i l li)))

    pub few-of-checks : Guarantees c → (erased : List ℕ) → ((u : ℕ) → NoneErased c erased u) → FewWrong c info frames → sent.Correctable c info frames erased
    few-of-checks G erased none few u i l li =
        let plain = former c erased u (none u) G i li frames in
        half _ _ (subst (λ (v : ℕ). 2 * sent.wrong_touched c info frames erased u i ≤ v) (sym plain.all_vote) (subst (λ (w : ℕ). 2 * w ≤ count c i) (sym (plain.counted info)) (few-as u i l li)))
      where
        unfolding-wrong : (u i : ℕ) → sum_below (suc c.m) (λ b. sum_below (c.k + c.p) (λ s. min 1 (sum_below (count c i) (λ q. touches c i q b s)) * wrong c info frames s (u + b)))
            ≡ sum_below (suc c.m) (λ b. sum_below (c.k + c.p) (λ s. min 1 (sum_below (count c i) (λ q. touches c i q b s)) * sent.wrong c info frames (u + b) s))
        unfolding-wrong u i =
            sum-cong (suc c.m) (λ b. sum-cong (c.k + c.p) (λ s. ap (λ (w : ℕ). min 1 (sum_below (count c i) (λ q. touches c i q b s)) * w) (wrong-is s (u + b))))

        few-as : (u i : ℕ) → u < length info → i < c.k
            → 2 * sum_below (suc c.m) (λ b. sum_below (c.k + c.p) (λ s. min 1 (sum_below (count c i) (λ q. touches c i q b s)) * sent.wrong c info frames (u + b) s)) ≤ count c i
        few-as u i l li = subst (λ (w : ℕ). 2 * w ≤ count c i) (unfolding-wrong u i) (few u i l li)
