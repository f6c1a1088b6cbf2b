-- A session counts what its calls give out, and keeps its card.
use Prim.Native.Nat.{ℕ, ◌+◌}
use mathlib.Core.Path.{◌≡◌, refl, ap, ◌∙◌}
use mathlib.Core.Bool.{true, false}
use mathlib.Core.Logic.{⊎_elim}
use mathlib.Core.List.{List, [], ◌∷◌}
use native.Mathlib.Omega.{arith}
use lib.ListN.{length, length-append}
use Rattle.encoder.specs.Outcome.{SendOutcome}
use Rattle.encoder.specs.Sending.{refused_of, encoded_of, tail_out}
use Rattle.encoder.specs.Calls.{Call, information, tail, call_of, information_taken, tail_taken, session_after}
use Rattle.encoder.specs.declared.Session.{Session}
use Rattle.encoder.proofs.Outcomes.{tail-out, tail-taken}
use Rattle.encoder.proofs.Calls.{Taken, NotTaken, information-outcome, tail-outcome, Step, information-taken, information_refused, tail-sent, tail_refused}

-- what the calls from a session on add to its counts
pub record Counted (s : Session) (calls : List Call) : Type 0 where
  pub card_kept : (session_after s calls).card ≡ s.card
  pub information_counted : (session_after s calls).sent ≡ s.sent + length (information_taken s calls)
  pub tail_counted : (session_after s calls).tail ≡ s.tail + tail_taken s calls

-- a call that takes this information and so many tail frames, and hands the session s' on
module _ (s s' : Session) (call : Call) (calls : List Call) (frames info : List ℕ) (tails : ℕ) (w : Step s s' call calls frames info tails)
    (handed : (call_of s call).session ≡ s') (card_is : s'.card ≡ s.card) (sent_is : s'.sent ≡ s.sent + length info) (tail-is : s'.tail ≡ s.tail + tails) where
  carried : Counted s' calls → Counted s (call ∷ calls)
  unfolding session_after
  carried r =
      let after : session_after s (call ∷ calls) ≡ session_after s' calls = ap (λ (s : Session). session_after s calls) handed in
      let taken = ap length w.information-is ∙ length-append info (information_taken s' calls) in
      record {
        card_kept = ap (λ (s : Session). s.card) after ∙ r.card_kept ∙ card_is;
        information_counted = omega (arith, ap (λ (s : Session). s.sent) after, r.information_counted, taken);
        tail_counted = omega (arith, ap (λ (s : Session). s.tail) after, r.tail_counted, w.tails-are);
      }

pub counted : (calls : List Call) (s : Session) → Counted s calls
unfolding session_after information_taken tail_taken call_of refused_of encoded_of
counted [] s = record { card_kept = refl; information_counted = omega arith; tail_counted = omega arith }
counted (information f ∷ calls) s =
    ⊎_elim
    (λ (w : Taken s f).
    let r = encoded_of s f (s.sent + 1) s.tail in
    carried s r.session (information f) calls _ (f ∷ []) 0 (information-taken s calls f w) (ap (λ (r : SendOutcome). r.session) w.is) refl (omega arith) (omega arith) (counted calls r.session))
    (λ (w : NotTaken s f).
    carried s s (information f) calls [] [] 0 (information_refused s calls f w) (ap (λ (r : SendOutcome). r.session) w.is) refl (omega arith) (omega arith) (counted calls s))
    (information-outcome s f)
counted (tail ∷ calls) s =
    ⊎_elim
    (λ (e : tail_out s ≡ true).
    carried s s tail calls [] [] 0 (tail_refused s calls e) (ap (λ (r : SendOutcome). r.session) (tail-out s e)) refl (omega arith) (omega arith) (counted calls s))
    (λ (e : tail_out s ≡ false).
    let r = encoded_of s 0 s.sent (s.tail + 1) in
    carried s r.session tail calls _ [] 1 (tail-sent s calls e) (ap (λ (r : SendOutcome). r.session) (tail-taken s e)) refl (omega arith) (omega arith) (counted calls r.session))
    (tail-outcome s)
