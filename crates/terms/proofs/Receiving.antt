-- A receiving session that keeps to a rule (`receiving`, `Claims.ByRule`) receives as the page says, if the rule hands out what the majority rule does.
use Prim.Native.Nat.{ℕ, ◌+◌, ◌-◌, ◌≤◌, ◌<◌}
use mathlib.Core.Path.{◌≡◌, refl, sym, ap, ap₂, ◌∙◌, subst, fun_ext}
use mathlib.Core.Bool.{cond}
use mathlib.Core.Logic.{⊎_elim}
use mathlib.Core.List.{List, [], ◌∷◌, map}
use native.Mathlib.Omega.{arith}
use lib.ListN.{length, get_or}
use lib.Dec.{ltb}
use borrow.Author.Tests.{lt-ltb, le-ltb}
use Rattle.bits.specs.Digits.{bit}
use Rattle.bits.proofs.Cases.{le-or-lt}
use Rattle.bits.proofs.Digits.{bit-of-zero}
use Rattle.code.specs.Code.{digit}
use Rattle.code.specs.Guarantees.{Guarantees}
use Rattle.code.specs.declared.Card.{Card}
use Rattle.majority.specs.AsSent.{Correctable}
use Rattle.majority.specs.Plain.{NoneErased}
use Rattle.majority.specs.Rule as rule
use Rattle.majority.proofs.Streams.{decoded-length, decoded-at}
use Rattle.receiving.specs.Answers.{Given, waiting, frame}
use Rattle.receiving.specs.Answers as answer
use Rattle.receiving.specs.Calls as call
use Rattle.receiving.specs.Calls.{Call, taken_frames, taken_erased, answers, answers_by}
use Rattle.receiving.specs.Claims.{ByRule}
use Rattle.receiving.specs.Receive.{Circuit}
use Rattle.receiving.proofs.Answers.{answers-length, first-waiting, then-frames}
use Rattle.terms.specs.Terms.{handed, frames_taken, erased_taken, taken_calls, ByTheRule, WholeStream, frames_out, read_now, Receives}
use Rattle.terms.proofs.Band.{as_before}
use Rattle.terms.proofs.Calls.{frame_is, erased-is}
use Rattle.terms.proofs.Following as following
use Rattle.terms.proofs.Rule.{decided-is, few-of-votes, few-of-checks}

handed_out : (given : List Given) → frames_out given ≡ call.handed_in given
unfolding frames_out call.handed_in call.handed_by
handed_out [] = refl
handed_out (waiting ∷ later) = handed_out later
handed_out (frame f ∷ later) = ap (λ (l : List ℕ). f ∷ l) (handed_out later)
handed_out (answer.refused n ∷ later) = handed_out later

-- ---- the rule's answers in their turns
module _ (hands : Card → List ℕ → List ℕ → List ℕ) (c : Card) (as-decoded : (frames erased : List ℕ) → hands c frames erased ≡ rule.decoded c frames erased) (frames erased : List ℕ) where
  many : length (hands c frames erased) ≡ length frames - c.m
  many = ap length (as-decoded frames erased) ∙ decoded-length c frames erased

  in-turn : (u : ℕ) → u < length (answers_by hands c frames erased)
      → get_or (answers_by hands c frames erased) u waiting ≡ cond (ltb u c.m) waiting (frame (handed c frames (rule.decided c frames erased (length frames - c.m)) (u - c.m)))
  unfolding rule.corrected
  in-turn u l =
      let lu : u < length frames = omega (arith, answers-length hands c frames erased many) in
      ⊎_elim
      (λ (h : c.m ≤ u).
      then-frames hands c frames erased many u lu h
      ∙ ap (λ (l : List ℕ). frame (get_or l (u - c.m) 0)) (as-decoded frames erased)
      ∙ ap (λ (f : ℕ). frame f) (decoded-at c frames erased (u - c.m) (omega arith))
      ∙ rw (le-ltb u c.m h))
      (λ (h : u < c.m). first-waiting hands c frames erased many u lu h ∙ rw (lt-ltb u c.m h))
      (le-or-lt c.m u)

module _ {S : Type 0} (x : Circuit S) (hands : Card → List ℕ → List ℕ → List ℕ) (c : Card) (G : Guarantees c) (s : S) (B : ByRule x hands Correctable c s)
    (as-decoded : (frames erased : List ℕ) → hands c frames erased ≡ rule.decoded c frames erased) where
  pub frames-are : (calls : List Call) → taken_frames x s calls ≡ frames_taken read_now c calls
  frames-are calls =
      following.taken_is x c G s B.card_kept B.counted call.frame_in calls
      ∙ ap (λ (f : Call → ℕ). map f (taken_calls read_now c 0 calls)) (fun_ext (λ a. sym (frame_is (c.k + c.p) a)))

  pub erased-are : (calls : List Call) → taken_erased x s calls ≡ erased_taken read_now c calls
  erased-are calls =
      following.taken_is x c G s B.card_kept B.counted call.erased_in calls
      ∙ ap (λ (f : Call → ℕ). map f (taken_calls read_now c 0 calls)) (fun_ext (λ a. sym (erased-is (c.k + c.p) a)))

  answered : (calls : List Call) → ByTheRule read_now c calls (answers x s calls)
  answered calls =
      let frames = frames_taken read_now c calls in
      let erased = erased_taken read_now c calls in
      record {
        errors = rule.decided c frames erased (length frames - c.m);
        decided = decided-is c frames erased;
        answers_are =
            following.answered x c G s B.card_kept B.counted (handed c frames (rule.decided c frames erased (length frames - c.m))) (answers_by hands c frames erased)
            (in-turn hands c as-decoded frames erased) calls (B.answers_by_rule calls ∙ ap₂ (answers_by hands c) (frames-are calls) (erased-are calls));
      }

  -- a whole stream that is correctable
  came-out : (calls : List Call) (info : List ℕ) → WholeStream c info (frames_taken read_now c calls)
      → Correctable c info (frames_taken read_now c calls) (erased_taken read_now c calls) → frames_out (answers x s calls) ≡ info
  came-out calls info whole few =
      handed_out (answers x s calls)
      ∙ B.comes_out_as_sent calls info whole.0 (ap length (frames-are calls) ∙ whole.1)
      (subst (λ (f : List ℕ). Correctable c info f (taken_erased x s calls)) (sym (frames-are calls))
      (subst (λ (e : List ℕ). Correctable c info (frames_taken read_now c calls) e) (sym (erased-are calls)) few))

  none-erased : (erased : List ℕ) → ((u : ℕ) → get_or erased u 0 ≡ 0) → (u : ℕ) → NoneErased c erased u
  unfolding digit
  none-erased erased none u b s lb ls = ap (λ (f : ℕ). bit f s) (none (u + b)) ∙ bit-of-zero s

  pub receives : Receives x c s
  receives =
      record {
        answered = answered;
        unchanged = following.unchanged x c G s B.card_kept B.counted;
        comes_out_as_sent = λ calls info none whole few.
            came-out calls info whole (few-of-checks c info (frames_taken read_now c calls) G (erased_taken read_now c calls) (none-erased (erased_taken read_now c calls) none) few);
        comes_out_of_votes = λ calls info whole few. came-out calls info whole (few-of-votes c info (frames_taken read_now c calls) (erased_taken read_now c calls) few);
        as_before = λ calls out. as_before c calls (answers x s calls) out (answered calls);
      }
