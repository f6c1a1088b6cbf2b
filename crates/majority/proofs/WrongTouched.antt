-- The two numbers of the condition, for one digit, where it is known what was sent and which checks vote. To compute them like this looks at each of these
-- once, and only at digits that are wrong; computing the condition as it stands looks at all of it for every digit, which is too much for a large card.
use Prim.Native.Nat.{ℕ, zero, suc, ◌+◌, ◌-◌, ◌*◌, ◌%◌, ◌<◌, min}
use mathlib.Core.Path.{◌≡◌, refl, sym, ap, ap₂, ◌∙◌}
use mathlib.Core.List.{List, []}
use native.Mathlib.Nat.{mul-zero}
use lib.ListN.{get_or}
use Rattle.bits.specs.Sums.{sum_below, up_to}
use Rattle.bits.proofs.Lists.{up_to-at}
use Rattle.bits.proofs.Sums.{sum_same, sum-cong}
use Rattle.code.specs.Code.{digit, sent}
use Rattle.code.specs.Checks.{count, touches, besides}
use Rattle.code.specs.declared.Card.{Card}
use Rattle.majority.specs.Rule.{voting, voters}
use Rattle.majority.specs.AsSent.{wrong, touched, wrong_touched}
use Rattle.majority.proofs.Plain.{every-votes, none-erased}

-- so many wrong digits are touched, and so many checks vote
pub record Counted (c : Card) (info frames erased : List ℕ) (u i w v : ℕ) : Type 0 where
  pub wrong-are : wrong_touched c info frames erased u i ≡ w
  pub voters-are : voters c erased u i ≡ v

-- x times n, and x is not looked at where n is 0
abbrev times : ℕ → ℕ → ℕ
times zero x = 0
times (suc n) x = x * suc n

times-is : (x n : ℕ) → x * n ≡ times n x
times-is x zero = mul-zero x
times-is x (suc n) = refl

-- the wrong digits among those touched for digit i at u, if these were sent and these are the votes
abbrev touched-by : Card → List ℕ → List ℕ → ℕ → ℕ → (ℕ → ℕ) → ℕ
touched-by c whole frames u i votes =
    sum_below (suc c.m)
    (λ b.
    sum_below (c.k + c.p)
    (λ s.
    times ((digit frames s (u + b) + digit whole s (u + b)) % 2)
    (min 1 (1 - besides i b s + sum_below (count c i) (λ q. votes q * touches c i q b s)))))

module _ (c : Card) (info whole : List ℕ) (all : sent c info ≡ whole) (frames : List ℕ) where
  counted-by : (erased : List ℕ) (u i : ℕ) (votes : ℕ → ℕ) → ((q : ℕ) → q < count c i → voting c erased u i q ≡ votes q)
      → {w v : ℕ} → touched-by c whole frames u i votes ≡ w → sum_below (count c i) votes ≡ v → Counted c info frames erased u i w v
  unfolding voters wrong_touched touched wrong
  counted-by erased u i votes known e n =
      record {
        wrong-are =
            sum-cong (suc c.m)
            (λ b.
            sum-cong (c.k + c.p)
            (λ s.
            ap₂ (λ x (l : List ℕ). min 1 (1 - besides i b s + x) * ((digit frames s (u + b) + digit l s (u + b)) % 2))
            (sum_same (count c i) _ _ (λ q l. ap (λ x. x * touches c i q b s) (known q l))) all
            ∙ times-is _ ((digit frames s (u + b) + digit whole s (u + b)) % 2)))
            ∙ e;
        voters-are = sum_same (count c i) _ _ known ∙ n;
      }

  -- nothing is erased
  pub counted-plain : (u i : ℕ) {w v : ℕ} → touched-by c whole frames u i (λ q. 1) ≡ w → sum_below (count c i) (λ q. 1) ≡ v → Counted c info frames [] u i w v
  counted-plain u i = counted-by [] u i (λ q. 1) (λ q l. every-votes c [] u (none-erased c u) i q)

  -- these are the votes
  pub counted-voted : (erased : List ℕ) (u i : ℕ) (votes : List ℕ) → up_to (count c i) (voting c erased u i) ≡ votes
      → {w v : ℕ} → touched-by c whole frames u i (λ q. get_or votes q 0) ≡ w → sum_below (count c i) (λ q. get_or votes q 0) ≡ v
      → Counted c info frames erased u i w v
  counted-voted erased u i votes known =
      counted-by erased u i (λ q. get_or votes q 0)
      (λ q l. sym (up_to-at (count c i) (voting c erased u i) q l) ∙ ap (λ (l : List ℕ). get_or l q 0) known)
