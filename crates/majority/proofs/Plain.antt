-- Where nothing is erased every check votes: the rule and the condition are then the former ones. And the laws of the plain rule, for those who use that
-- case alone.
use Prim.Native.Nat.{ℕ, suc, ◌+◌, ◌-◌, ◌*◌, ◌^◌, ◌<◌, ◌≤◌, min}
use mathlib.Core.Path.{◌≡◌, ap, ap₂, ◌∙◌}
use mathlib.Core.Logic.{⊎_elim}
use mathlib.Core.Bool.{cond}
use mathlib.Core.List.{List, []}
use native.Mathlib.Nat.{mul-one, one-mul}
use native.Mathlib.Omega.{arith}
use lib.ListN.{length, get_or}
use lib.Dec.{ltb}
use Rattle.bits.specs.Sums.{sum_below}
use Rattle.bits.proofs.Cases.{same_or_not}
use Rattle.bits.proofs.Sums.{sum_same, sum-cong, sum-const}
use Rattle.code.specs.Checks.{count, check_mask, touches, besides}
use Rattle.code.specs.Guarantees.{Guarantees}
use Rattle.code.specs.declared.Card.{Card}
use Rattle.code.proofs.Besides.{besides-other}
use Rattle.code.proofs.Frames.{digit-out}
use Rattle.code.proofs.Judging.{no-clash}
use Rattle.majority.specs.Rule.{voting, voters, check_at, votes, decide, corrected}
use Rattle.majority.specs.AsSent.{wrong, touched, wrong_touched}
use Rattle.majority.specs.Plain.{decide_frame, decided, decoded, Correctable, NoneErased, Former}
use Rattle.majority.proofs.Streams as streams
use Rattle.majority.proofs.Theorem as theorem

module _ (c : Card) (erased : List ℕ) (u : ℕ) (none : NoneErased c erased u) where
  pub every-votes : (i q : ℕ) → voting c erased u i q ≡ 1
  unfolding voting
  every-votes i q =
      ap (λ x. 1 - x) (no-clash c i (check_mask c i q) _ (λ b s lb ls ne e l. let z = none b s lb ls in absurd (omega arith)))

  pub all_vote : (i : ℕ) → voters c erased u i ≡ count c i
  unfolding voters
  all_vote i = sum-cong (count c i) (λ q. every-votes i q) ∙ sum-const (count c i) 1 ∙ mul-one (count c i)

  -- of some checks, those that vote are all
  pub all_of : (i : ℕ) (which : ℕ → ℕ) → sum_below (count c i) (λ q. voting c erased u i q * which q) ≡ sum_below (count c i) which
  all_of i which = sum-cong (count c i) (λ q. ap (λ x. x * which q) (every-votes i q) ∙ one-mul (which q))

  pub decide-plain : (frames errors : List ℕ) (i : ℕ)
      → decide c frames erased errors u i ≡ cond (ltb (count c i) (2 * sum_below (count c i) (λ q. check_at c frames errors u i q))) 1 0
  unfolding decide votes
  decide-plain frames errors i = ap₂ (λ x y. cond (ltb x (2 * y)) 1 0) (all_vote i) (all_of i (λ q. check_at c frames errors u i q))

  module _ (G : Guarantees c) (i : ℕ) (li : i < c.k) where
    -- the own digit is touched by every check, and there is one
    own-counted : (b s : ℕ) → b ≡ 0 → s ≡ i → 1 ≤ sum_below (count c i) (λ q. touches c i q b s)
    own-counted b s p r =
        rw (p, r)
        (let e = sum_same (count c i) (λ q. touches c i q 0 i) (λ q. 1) (G.orthogonal i li).own ∙ sum-const (count c i) 1 in
        let j = G.j_least i li in omega arith)

    touched-plain : (b s : ℕ) → touched c erased u i b s ≡ min 1 (sum_below (count c i) (λ q. touches c i q b s))
    unfolding touched
    touched-plain b s = ap (λ x. min 1 (1 - besides i b s + x)) (all_of i (λ q. touches c i q b s)) ∙ counted-once
      where
        n : ℕ
        n = sum_below (count c i) (λ q. touches c i q b s)

        other : (b ≡ 0 → s ≡ i → ⊥) → min 1 (1 - besides i b s + n) ≡ min 1 n
        other ne = let z = besides-other i b s ne in omega arith

        counted-once : min 1 (1 - besides i b s + n) ≡ min 1 n
        counted-once =
            ⊎_elim (λ p. ⊎_elim (λ r. let l = own-counted b s p r in omega arith) (λ ne. other (λ p r. ne r)) (same_or_not s i))
            (λ ne. other (λ p r. ne p)) (same_or_not b 0)

    pub former : (frames : List ℕ) → Former c frames erased u i
    unfolding wrong_touched
    former frames =
        record {
          decision = λ errors. decide-plain frames errors i;
          all_vote = all_vote i;
          counted = λ info. sum-cong (suc c.m) (λ b. sum-cong (c.k + c.p) (λ s. ap (λ x. x * wrong c info frames (u + b) s) (touched-plain b s)));
        }

-- ---- nothing is erased at all
pub none-erased : (c : Card) (u : ℕ) → NoneErased c [] u
none-erased c u b s lb ls = digit-out [] s (u + b) (omega arith)

module _ (c : Card) (frames : List ℕ) where
  pub decided-length : (n : ℕ) → length (decided c frames n) ≡ n
  decided-length n = streams.decided-length c frames [] n

  pub decided-at : (n u : ℕ) → u < n → get_or (decided c frames n) u 0 ≡ decide_frame c frames (decided c frames u) u
  decided-at n u l = streams.decided-at c frames [] n u l

  pub decoded-length : length (decoded c frames) ≡ length frames - c.m
  decoded-length = streams.decoded-length c frames []

  pub decoded-at : (u : ℕ) → u < length frames - c.m → get_or (decoded c frames) u 0 ≡ corrected c frames (decided c frames (length frames - c.m)) u
  decoded-at u l = streams.decoded-at c frames [] u l

pub decoded-as-sent : (c : Card) → Guarantees c → (info frames : List ℕ)
    → ((u : ℕ) → u < length info → get_or info u 0 < 2 ^ c.k)
    → length frames ≡ length info + c.m
    → Correctable c info frames
    → decoded c frames ≡ info
decoded-as-sent c G info frames small whole few = theorem.decoded-as-sent c G info frames [] small whole few
