-- Sending calls on a session, and then others: what both lists give out and take. And a refused call hands the session back as it was.
use Prim.Native.Nat.{ℕ, ◌+◌}
use mathlib.Core.Path.{◌≡◌, refl}
use mathlib.Core.Bool.{true, false}
use mathlib.Core.Logic.{⊎_elim}
use mathlib.Core.List.{List, [], ◌∷◌, ◌++◌, append_assoc}
use native.Mathlib.Omega.{arith}
use Rattle.encoder.specs.Calls.{Call, information, tail, call_of, frames_given, information_taken, tail_taken, session_after}
use Rattle.encoder.specs.Opening.{Closed}
use Rattle.encoder.specs.Outcome.{refused}
use Rattle.encoder.specs.Sending.{refused_of, encoded_of, tail_out, send_of, send_tail_of}
use Rattle.encoder.specs.declared.Session.{Session}
use Rattle.encoder.proofs.Calls.{Taken, NotTaken, information-outcome, tail-outcome}
use Rattle.encoder.proofs.Outcomes.{tail-out, tail-taken}

-- ---- two lists of calls

pub session-joined : (calls later : List Call) (s : Session) → session_after s (calls ++ later) ≡ session_after (session_after s calls) later
unfolding session_after
session-joined [] later s = refl
session-joined (call ∷ calls) later s = session-joined calls later (call_of s call).session

pub frames-joined : (calls later : List Call) (s : Session) → frames_given s (calls ++ later) ≡ frames_given s calls ++ frames_given (session_after s calls) later
unfolding session_after frames_given
frames-joined [] later s = refl
frames-joined (call ∷ calls) later s = rw (frames-joined calls later (call_of s call).session, append_assoc)

pub information-joined : (calls later : List Call) (s : Session)
    → information_taken s (calls ++ later) ≡ information_taken s calls ++ information_taken (session_after s calls) later
unfolding session_after call_of information_taken
information-joined [] later s = refl
information-joined (information f ∷ calls) later s = rw (information-joined calls later (send_of s f).session, append_assoc)
information-joined (tail ∷ calls) later s = information-joined calls later (send_tail_of s).session

pub tails-joined : (calls later : List Call) (s : Session) → tail_taken s (calls ++ later) ≡ tail_taken s calls + tail_taken (session_after s calls) later
unfolding session_after call_of tail_taken
tails-joined [] later s = omega arith
tails-joined (information f ∷ calls) later s = tails-joined calls later (send_of s f).session
tails-joined (tail ∷ calls) later s = omega (arith, tails-joined calls later (send_tail_of s).session)

-- ---- a refused call

module _ (s : Session) where
  pub unchanged : (call : Call) (number : ℕ) → (call_of s call).outcome ≡ refused number → (call_of s call).session ≡ s
  unfolding call_of refused_of encoded_of
  unchanged (information f) number e = ⊎_elim (λ (w : Taken s f). cc) (λ (w : NotTaken s f). cc) (information-outcome s f)
  unchanged tail number e =
      ⊎_elim (λ (t : tail_out s ≡ true). cc (tail-out s t)) (λ (t : tail_out s ≡ false). cc (tail-taken s t)) (tail-outcome s)

  pub closed-refuses : Closed s → (call : Call) → (n : ℕ) × ((call_of s call).outcome ≡ refused n)
  unfolding call_of refused_of
  closed-refuses shut (information f) = (15, cc (shut.information_refused f))
  closed-refuses shut tail = (17, cc)
