-- For any list of calls on a session freshly opened with an accepted card: the answers and the frames handed out are those of the session's rule for the
-- frames taken, and a correctable stream comes out as sent, if the rule has that of whole streams.
use Prim.Native.Nat.{ℕ, ◌+◌, ◌-◌, ◌^◌, ◌<◌}
use mathlib.Core.Path.{◌≡◌, refl, ap, ◌∙◌}
use mathlib.Core.List.{List}
use native.Mathlib.Omega.{arith}
use lib.ListN.{length, get_or}
use Rattle.code.specs.Guarantees.{Guarantees}
use Rattle.code.specs.declared.Card.{Card}
use Rattle.receiving.specs.Receive.{Circuit}
use Rattle.receiving.specs.Calls.{Call, taken_frames, taken_erased, handed_in, frames_handed_out, answers_by}
use Rattle.receiving.specs.Claims.{ByRule}
use Rattle.receiving.proofs.Answers.{answers-length, handed_by_rule}
use Rattle.receiving.proofs.Follow.{Follows, Followed, follow}

module _ {S : Type 0} (x : Circuit S) (rule : Card → List ℕ → List ℕ → List ℕ) (c : Card) (G : Guarantees c) (s : S)
    (handed : (frames erased : List ℕ) → length (rule c frames erased) ≡ length frames - c.m)
    (F : (frames erased : List ℕ) → Follows x c frames erased (answers_by rule c frames erased))
    (start : (frames erased : List ℕ) → (F frames erased).After 0 s) where
  -- the calls followed from the start, the frames being those that they take
  pub from_start : (calls : List Call) →
      let frames = taken_frames x s calls in
      let erased = taken_erased x s calls in
      Followed x c G frames erased (answers_by rule c frames erased) (answers-length rule c frames erased (handed frames erased)) (F frames erased) 0 s calls
  from_start calls =
      let frames = taken_frames x s calls in
      let erased = taken_erased x s calls in
      follow x c G frames erased (answers_by rule c frames erased) (answers-length rule c frames erased (handed frames erased)) (F frames erased) calls 0 s (omega arith)
      (start frames erased) refl refl

  handed-are : (calls : List Call) → frames_handed_out x s calls ≡ rule c (taken_frames x s calls) (taken_erased x s calls)
  handed-are calls = (from_start calls).handed-are ∙ ap handed_in (from_start calls).answers_are ∙ handed_by_rule rule c (taken_frames x s calls) (taken_erased x s calls)

  pub follows-rule : (Correctable : Card → List ℕ → List ℕ → List ℕ → Type 0)
      → ((info frames erased : List ℕ) → ((u : ℕ) → u < length info → get_or info u 0 < 2 ^ c.k) → length frames ≡ length info + c.m → Correctable c info frames erased
      → rule c frames erased ≡ info)
      → ByRule x rule Correctable c s
  follows-rule Correctable as-sent =
      record {
        handed_by_rule = handed-are;
        answers_by_rule = λ calls. (from_start calls).answers_are;
        comes_out_as_sent = λ calls info small whole few. handed-are calls ∙ as-sent info (taken_frames x s calls) (taken_erased x s calls) small whole few;
        card_kept = λ calls. (F _ _).card_is _ _ (from_start calls).last;
        counted = λ calls. (F _ _).received_is _ _ (from_start calls).last;
      }
