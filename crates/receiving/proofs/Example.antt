-- The claims of a session of any kind, each applied to card P, and the third term to T. What the calls take, and what the rule hands out for it, is computed
-- for each kind; what the calls come to is not.
use Prim.Native.Nat.{ℕ}
use mathlib.Core.Path.{◌≡◌, refl, ap, ap₂, ◌∙◌}
use mathlib.Core.List.{List, [], ◌∷◌}
use lib.ListN.{length, replicate}
use Rattle.bits.specs.Sums.{sum_below}
use Rattle.bits.proofs.Sums.{all-at_most}
use Rattle.code.specs.Bench.{P, T}
use Rattle.code.specs.declared.Card.{Card}
use Rattle.majority.specs.AsSent.{Correctable}
use Rattle.majority.proofs.Edges.{erased-edges}
use Rattle.receiving.specs.Answers.{waiting, frame}
use Rattle.receiving.specs.Receive.{Circuit}
use Rattle.receiving.specs.Calls.{Call, taken_frames, taken_erased, answers_by}
use Rattle.receiving.specs.Claims.{ByRule}
use Rattle.receiving.specs.Example.{calls_p, calls_p_two_errors, calls_p_lost, ReceivesP, minus_quarter, faint, calls_p_at, ReceivesFaintP, calls_t, calls_t_lost, ReceivesT}

-- what the calls take: these frames, and which of their digits are erased
abbrev pub Takes : {S : Type 0} → Circuit S → S → List Call → List ℕ → List ℕ → Type 0
Takes x s calls frames erased = (taken_frames x s calls ≡ frames) × (taken_erased x s calls ≡ erased)

-- at the edge of the band
pub record TakesFaint {S : Type 0} (x : Circuit S) (s : S) : Type 0 where
  pub quarter-taken : Takes x s (calls_p_at minus_quarter) (0 ∷ 1 ∷ 0 ∷ []) (0 ∷ 0 ∷ 0 ∷ [])
  pub faint-taken : Takes x s (calls_p_at faint) (0 ∷ 1 ∷ 0 ∷ []) (3 ∷ 0 ∷ 0 ∷ [])

module _ {S : Type 0} (x : Circuit S) (rule : Card → List ℕ → List ℕ → List ℕ) (s : S) where
  pub receives-P : ByRule x rule Correctable P s → Takes x s calls_p (3 ∷ 3 ∷ 3 ∷ 2 ∷ []) (0 ∷ 0 ∷ 0 ∷ 1 ∷ []) → Takes x s calls_p_two_errors (2 ∷ 2 ∷ 0 ∷ 0 ∷ []) (replicate 4 0)
      → Takes x s calls_p_lost (0 ∷ 1 ∷ 0 ∷ []) (3 ∷ 0 ∷ 0 ∷ [])
      → answers_by rule P (3 ∷ 3 ∷ 3 ∷ 2 ∷ []) (0 ∷ 0 ∷ 0 ∷ 1 ∷ []) ≡ waiting ∷ frame 1 ∷ frame 0 ∷ frame 1 ∷ []
      → rule P (2 ∷ 2 ∷ 0 ∷ 0 ∷ []) (replicate 4 0) ≡ 1 ∷ 0 ∷ 0 ∷ [] → rule P (0 ∷ 1 ∷ 0 ∷ []) (3 ∷ 0 ∷ 0 ∷ []) ≡ 1 ∷ 1 ∷ [] → ReceivesP x s
  unfolding sum_below
  receives-P claims t u v a r l =
      record {
        comes_out = claims.comes_out_as_sent calls_p (1 ∷ 0 ∷ 1 ∷ []) (all-at_most _ _ _ refl) (ap length t.0) (rw (t.0, t.1) erased-edges.p_tail);
        by_rule = claims.handed_by_rule calls_p_two_errors ∙ ap₂ (rule P) u.0 u.1 ∙ r;
        lost_by_rule = claims.handed_by_rule calls_p_lost ∙ ap₂ (rule P) v.0 v.1 ∙ l;
        answers = claims.answers_by_rule calls_p ∙ ap₂ (answers_by rule P) t.0 t.1 ∙ a;
      }

  pub receives-faint-P : ByRule x rule Correctable P s → TakesFaint x s
      → rule P (0 ∷ 1 ∷ 0 ∷ []) (replicate 3 0) ≡ 0 ∷ 0 ∷ [] → rule P (0 ∷ 1 ∷ 0 ∷ []) (3 ∷ 0 ∷ 0 ∷ []) ≡ 1 ∷ 1 ∷ [] → ReceivesFaintP x s
  receives-faint-P claims t r l =
      record {
        quarter_by_rule = claims.handed_by_rule (calls_p_at minus_quarter) ∙ ap₂ (rule P) t.quarter-taken.0 t.quarter-taken.1 ∙ r;
        faint_by_rule = claims.handed_by_rule (calls_p_at faint) ∙ ap₂ (rule P) t.faint-taken.0 t.faint-taken.1 ∙ l;
      }

  pub receives-T : ByRule x rule Correctable T s → Takes x s calls_t (3 ∷ 0 ∷ 0 ∷ []) (replicate 3 0) → Takes x s calls_t_lost (1 ∷ 4 ∷ 4 ∷ []) (2 ∷ 0 ∷ 0 ∷ []) → ReceivesT x s
  unfolding sum_below
  receives-T claims t u =
      record {
        wrong = claims.comes_out_as_sent calls_t (3 ∷ []) (all-at_most _ _ _ refl) (ap length t.0) (rw (t.0, t.1) erased-edges.t_one_each);
        lost = claims.comes_out_as_sent calls_t_lost (3 ∷ []) (all-at_most _ _ _ refl) (ap length u.0) (rw (u.0, u.1) erased-edges.t_other_stream);
      }
