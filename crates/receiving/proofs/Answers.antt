-- The answers of a rule to received frames, one by one, and the frames among them.
use Prim.Native.Nat.{ℕ, zero, suc, ◌+◌, ◌-◌, ◌≤◌, ◌<◌, min}
use mathlib.Core.Path.{◌≡◌, refl, sym, ap, ap₂, ◌∙◌}
use mathlib.Core.List.{List, [], ◌∷◌, ◌++◌, map, append_assoc}
use native.Mathlib.Omega.{arith}
use lib.ListN.{length, get_or, replicate, length-append, length-replicate, length-map, get_or-replicate, get_or-append}
use lib.Seq.{get_or-append-add}
use Rattle.code.specs.declared.Card.{Card}
use Rattle.receiving.specs.Answers.{Given, waiting, frame}
use Rattle.receiving.specs.Calls.{handed_by, handed_in, answers_by}

-- ---- the answer at time t
module _ (rule : Card → List ℕ → List ℕ → List ℕ) (c : Card) (frames erased : List ℕ) (handed : length (rule c frames erased) ≡ length frames - c.m) where
  pub answers-length : length (answers_by rule c frames erased) ≡ length frames
  unfolding answers_by
  answers-length =
      length-append (replicate (min (length frames) c.m) waiting) (map frame (rule c frames erased))
      ∙ omega (arith, length-replicate (min (length frames) c.m) waiting, length-map (rule c frames erased) frame, handed)

  module _ (t : ℕ) (l : t < length frames) where
    pub first-waiting : t < c.m → get_or (answers_by rule c frames erased) t waiting ≡ waiting
    unfolding answers_by
    first-waiting lm =
        let n = min (length frames) c.m in
        get_or-append (replicate n waiting) (map frame (rule c frames erased)) waiting t (omega (arith, length-replicate n waiting))
        ∙ get_or-replicate n t waiting waiting (omega arith)

    pub then-frames : c.m ≤ t → get_or (answers_by rule c frames erased) t waiting ≡ frame (get_or (rule c frames erased) (t - c.m) 0)
    unfolding answers_by
    then-frames lm =
        let n = min (length frames) c.m in
        let e : t ≡ length (replicate n waiting) + (t - c.m) = omega (arith, length-replicate n waiting) in
        ap (λ (x : ℕ). get_or (answers_by rule c frames erased) x waiting) e
        ∙ get_or-append-add (replicate n waiting) (map frame (rule c frames erased)) (t - c.m) waiting
        ∙ framed (rule c frames erased) (t - c.m) (omega (arith, handed))
      where
        framed : (fs : List ℕ) (u : ℕ) → u < length fs → get_or (map frame fs) u waiting ≡ frame (get_or fs u 0)
        framed [] u lu = absurd (omega arith)
        framed (f ∷ fs) zero lu = refl
        framed (f ∷ fs) (suc u) lu = framed fs u (omega arith)

-- ---- the frames handed out by answers
handed-append : (gs hs : List Given) → handed_in (gs ++ hs) ≡ handed_in gs ++ handed_in hs
unfolding handed_in
handed-append [] hs = refl
handed-append (g ∷ gs) hs = ap (λ (l : List ℕ). handed_by g ++ l) (handed-append gs hs) ∙ sym (append_assoc (handed_by g) (handed_in gs) (handed_in hs))

handed-waiting : (n : ℕ) → handed_in (replicate n waiting) ≡ []
unfolding handed_in handed_by
handed-waiting zero = refl
handed-waiting (suc n) = handed-waiting n

handed-frames : (l : List ℕ) → handed_in (map frame l) ≡ l
unfolding handed_in handed_by
handed-frames [] = refl
handed-frames (f ∷ l) = ap (λ (k : List ℕ). f ∷ k) (handed-frames l)

-- those of the rule's answers
pub handed_by_rule : (rule : Card → List ℕ → List ℕ → List ℕ) (c : Card) (frames erased : List ℕ) → handed_in (answers_by rule c frames erased) ≡ rule c frames erased
unfolding answers_by
handed_by_rule rule c frames erased =
    handed-append (replicate (min (length frames) c.m) waiting) (map frame (rule c frames erased))
    ∙ ap₂ ◌++◌ (handed-waiting (min (length frames) c.m)) (handed-frames (rule c frames erased))
