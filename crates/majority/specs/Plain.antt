-- The plain rule, which is that of a burst: nothing is erased. It is the rule as it stood before document 02's R-6, and so is the condition (`Former`).
-- Assumes nothing.
use Rattle.std.specs.Prelude.{ℕ, suc, ◌+◌, ◌*◌, ◌≤◌, ◌<◌, min, ◌≡◌, cond, List, [], ltb}
use Rattle.bits.specs.Sums.{sum_below}
use Rattle.code.specs.Code.{digit}
use Rattle.code.specs.Checks.{count, touches}
use Rattle.code.specs.declared.Card.{Card}
use Rattle.majority.specs.Rule as Rule
use Rattle.majority.specs.AsSent as AsSent

abbrev pub decide_frame : Card → List ℕ → List ℕ → ℕ → ℕ
decide_frame c frames errors u = Rule.decide_frame c frames [] errors u

abbrev pub decided : Card → List ℕ → ℕ → List ℕ
decided c frames n = Rule.decided c frames [] n

abbrev pub decoded : Card → List ℕ → List ℕ
decoded c frames = Rule.decoded c frames []

abbrev pub figure_by : Card → List ℕ → ℕ
figure_by c frames = Rule.figure_by c frames []

abbrev pub Correctable : Card → List ℕ → List ℕ → Type 0
Correctable c info frames = AsSent.Correctable c info frames []

-- no digit of the times u to u + m is erased: they are all that a decision at u looks at
abbrev pub NoneErased : Card → List ℕ → ℕ → Type 0
NoneErased c erased u = (b s : ℕ) → b ≤ c.m → s < c.k + c.p → digit erased s (u + b) ≡ 0

-- what the rule and the condition are for digit i at u, where nothing that they look at is erased: those of document 01, in its words
pub record Former (c : Card) (frames erased : List ℕ) (u i : ℕ) : Type 0 where
  -- "1 exactly if twice the number of checks equal to 1 is more than J"
  pub decision : (errors : List ℕ)
      → Rule.decide c frames erased errors u i ≡ cond (ltb (count c i) (2 * sum_below (count c i) (λ q. Rule.check_at c frames errors u i q))) 1 0
  -- half of J ..
  pub all_vote : Rule.voters c erased u i ≡ count c i
  -- .. and the wrong digits among those that at least one of the J checks touches, each counted once
  pub counted : (info : List ℕ)
      → AsSent.wrong_touched c info frames erased u i
      ≡ sum_below (suc c.m) (λ b. sum_below (c.k + c.p) (λ s. min 1 (sum_below (count c i) (λ q. touches c i q b s)) * AsSent.wrong c info frames (u + b) s))
