-- A turn of the sending run, and its end.
use Prim.Native.Nat.{ℕ, zero, suc, ◌+◌, ◌≤◌, ◌<◌}
use mathlib.Core.Path.{◌≡◌, refl, sym, ap, subst, ◌∙◌}
use mathlib.Core.List.{List, [], ◌∷◌, ◌++◌, map}
use native.Mathlib.Numerals.{add-one}
use native.Mathlib.Omega.{arith}
use lib.ListN.{length, get_or, drop, replicate, length-map, length-append, length-replicate, get_or-replicate, drop_of_length-le, get_or-eq_default}
use lib.Seq.{drop-cons}
use Rattle.std.specs.Prelude.{Result}
use Rattle.card.specs.declared.Refusal.{Refusal}
use Rattle.card.specs.Outcome as Card
use Rattle.card.specs.Outcome.{accepted}
use Rattle.card.specs.Reading.{read_card}
use Rattle.encoder.specs.Opening.{session_for}
use Rattle.encoder.specs.Sending.{open_of}
use Rattle.outcomes.specs.Outcome.{BurstOutcome}
use Rattle.sessions.specs.Sending.{send_on, session_send_of}
use Rattle.sessions.proofs.Memory.{memory-most}
use Rattle.sessions.proofs.Running.{under-accepted}
use Rattle.encoder.specs.Calls.{Call, information, tail, call_of, given_by, frames_given}
use Rattle.encoder.specs.Outcome.{Outcome, frame, refused, outcome_of, SendOutcome, published}
use Rattle.encoder.specs.declared.Session.{Session}

-- ---- the calls
pub information-at : (input : List ℕ) (t : ℕ) → t < length input → get_or (map information input) t tail ≡ information (get_or input t 0)
information-at [] t h = absurd (omega arith)
information-at (f ∷ input) zero h = refl
information-at (f ∷ input) (suc t) h = information-at input t (omega arith)

pub tail-after : (input : List ℕ) (t : ℕ) → length input ≤ t → get_or (map information input) t tail ≡ tail
tail-after input t h = get_or-eq_default (map information input) tail (rw (length-map input information) h)

abbrev calls : List ℕ → ℕ → List Call
calls input m = map information input ++ replicate m tail

call-first : (input : List ℕ) (m t : ℕ) → t < length input + m → drop t (calls input m) ≡ get_or (map information input) t tail ∷ drop (suc t) (calls input m)
call-first [] m t h =
    let l : t < m = omega arith in
    drop-cons (replicate m tail) t tail (rw (length-replicate m tail) l) ∙ ap (λ (x : Call). x ∷ drop (suc t) (replicate m tail)) (get_or-replicate m t tail tail l)
call-first (f ∷ input) m zero h = refl
call-first (f ∷ input) m (suc t) h = call-first input m t (omega arith)

-- the frames that the calls from turn t on hand out
abbrev pub rest_of : List ℕ → ℕ → Session → ℕ → List ℕ
rest_of input m s t = frames_given s (drop t (map information input ++ replicate m tail))

one-most : (o : Outcome) → length (given_by o) ≤ 1
unfolding given_by
one-most (frame f) = omega arith
one-most (refused n) = omega arith

-- each call hands out one frame at most
given-most : (calls : List Call) (s : Session) → length (frames_given s calls) ≤ length calls
unfolding frames_given
given-most [] s = omega arith
given-most (call ∷ calls) s =
    let came = call_of s call in
    omega (arith, length-append (given_by came.outcome) (frames_given came.session calls), one-most came.outcome, given-most calls came.session)

pub frames-most : (input : List ℕ) (m : ℕ) (s : Session) → length (frames_given s (calls input m)) ≤ length input + m
frames-most input m s =
    omega (arith, given-most (calls input m) s, length-append (map information input) (replicate m tail), length-map input information, length-replicate m tail)

module _ (input : List ℕ) (m : ℕ) (s : Session) (t : ℕ) where
  pub rest-turn : (came : Result ℕ Refusal) (next : Session) → t < length input + m → published came next ≡ call_of s (get_or (map information input) t tail)
      → rest_of input m s t ≡ given_by (outcome_of came) ++ rest_of input m next (t + 1)
  unfolding frames_given
  rest-turn came next h e =
      rw add-one
      (ap (frames_given s) (call-first input m t h)
      ∙ ap (λ (y : SendOutcome). given_by y.outcome ++ frames_given y.session (drop (suc t) (calls input m))) (sym e))

  pub rest_end : length input + m ≤ t → rest_of input m s t ≡ []
  unfolding frames_given
  rest_end h =
      let all : length (calls input m) ≤ t = rw (length-append (map information input) (replicate m tail), length-map input information, length-replicate m tail) h in
      ap (frames_given s) (drop_of_length-le (calls input m) all)

-- ---- with the card: the run on the session that opening gives
module _ (card input output : List ℕ) (s : Session) (opened : s ≡ session_for (read_card card).outcome (read_card card).card) (good : (read_card card).outcome ≡ accepted) where
  pub on-session : {came : BurstOutcome} → came ≡ send_on s input output → came ≡ session_send_of card input output
  unfolding session_send_of
  on-session e =
      e ∙ ap (λ (x : Session). send_on x input output) opened
      ∙ under-accepted (send_on (session_for (read_card card).outcome (read_card card).card) input output) output good

  -- so that its calls can be counted
  pub memory_most : s.card.m ≤ 31
  unfolding session_for open_of
  memory_most =
      subst (λ (x : Session). x.card.m ≤ 31) (sym (opened ∙ ap (λ (o : Card.Outcome). session_for o (read_card card).card) good)) (memory-most card good)
