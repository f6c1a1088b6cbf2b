-- A run under way: what it has handed out so far is stored, and the rest is still to come. And what a run comes to under each condition.
use Prim.Native.Nat.{ℕ, ◌≤◌, ◌<◌}
use mathlib.Core.Path.{◌≡◌, refl, sym, ap, ◌∙◌}
use mathlib.Core.List.{List, [], ◌++◌, append_assoc, append-nil}
use native.Mathlib.Omega.{arith}
use lib.IntN.{pos}
use lib.ListN.{length, drop}
use borrow.Author.Tests.{lt-ltb, le-ltb}
use Rattle.code.specs.Code.{most_frames}
use Rattle.card.specs.Outcome.{Outcome, accepted, refused}
use Rattle.outcomes.specs.Outcome.{BurstOutcome, outcome, refused_of, under_card}
use Rattle.outcomes.specs.Wrote.{Stored}
use Rattle.outcomes.specs.declared.cursor.Cursor.{Cursor}
use Rattle.outcomes.proofs.Outcomes.{given_is}
use Rattle.outcomes.proofs.Writing.{stored-both, stored-as, stored-front}
use Rattle.sessions.specs.Run.{run_of}

-- ---- a run that has handed out some of all its frames
pub record Partly (frames rest : List ℕ) (before after : Cursor) : Type 0 where
  pub done : List ℕ
  pub frames_are : frames ≡ done ++ rest
  pub stored : Stored before after done

module _ {frames rest : List ℕ} {before between : Cursor} (P : Partly frames rest before between) where
  pub partly-more : (given later : List ℕ) {after : Cursor} → rest ≡ given ++ later → Stored between after given → Partly frames later before after
  partly-more given later e w =
      record {
        done = P.done ++ given;
        frames_are = P.frames_are ∙ ap (λ (l : List ℕ). P.done ++ l) e ∙ sym (append_assoc P.done given later);
        stored = stored-both P.stored w;
      }

  pub partly-as : (later : List ℕ) → rest ≡ later → Partly frames later before between
  partly-as later e = record { done = P.done; frames_are = P.frames_are ∙ ap (λ (l : List ℕ). P.done ++ l) e; stored = P.stored }

  pub partly-all : rest ≡ [] → Stored before between frames
  partly-all e = stored-as (sym (P.frames_are ∙ ap (λ (l : List ℕ). P.done ++ l) e ∙ append-nil P.done)) P.stored

-- ---- what a run comes to
module _ (calls : ℕ) (frames output : List ℕ) where
  pub run-full : most_frames < calls → run_of calls frames output ≡ refused_of 15 output
  unfolding run_of
  run-full l = rw (lt-ltb most_frames calls l)

  module _ (r : calls ≤ most_frames) where
    pub run_short : length output < calls → run_of calls frames output ≡ refused_of 13 output
    unfolding run_of
    run_short l = rw (le-ltb most_frames calls r, lt-ltb (length output) calls l)

    -- what was stored from the front on stands there, if each call handed out one frame at most
    pub run-given : {before after : Cursor} → Stored before after frames → before.at ≡ 0 → before.output.now ≡ output → length frames ≤ calls → calls ≤ length output
        → outcome (pos after.at) after.output.now ≡ run_of calls frames output
    unfolding run_of
    run-given {before} {after} w front same most room =
        let count : after.at ≡ length frames = let e : length before.output.now ≡ length output = ap length same in omega (arith, w.at_is, w.length_most) in
        given_is (length frames) frames output refl (ap (λ (n : ℕ). pos n) count)
        (stored-front w front (let e : length before.output.now ≡ length output = ap length same in omega arith) ∙ ap (λ (l : List ℕ). frames ++ drop (length frames) l) same)
        ∙ rw (le-ltb most_frames calls r, le-ltb (length output) calls room)

-- ---- with the card
pub under-refused : {o : Outcome} {n at : ℕ} (run : BurstOutcome) (output : List ℕ) → o ≡ refused n at → refused_of n output ≡ under_card o run output
unfolding under_card
under-refused run output e = rw e

pub under-accepted : {o : Outcome} (run : BurstOutcome) (output : List ℕ) → o ≡ accepted → run ≡ under_card o run output
unfolding under_card
under-accepted run output e = rw e
