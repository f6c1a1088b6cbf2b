-- A call is taken or refused, by the conditions of the refusals, and what it then gives, takes and hands on.
use Prim.Native.Nat.{ℕ, ◌+◌, ◌<◌}
use mathlib.Core.Path.{◌≡◌, refl, sym, ap, ap₂, ◌∙◌}
use mathlib.Core.Bool.{Bool, true, false, cond}
use mathlib.Core.Logic.{◌⊎◌, inl, inr, ⊎_elim}
use mathlib.Core.List.{List, [], ◌∷◌, ◌++◌}
use native.Mathlib.Nat.{zero-add}
use native.Mathlib.Omega.{arith}
use borrow.Author.Tests.{lt-ltb, ltb-false}
use Rattle.encoder.specs.Outcome.{SendOutcome}
use Rattle.encoder.specs.Sending.{refused_of, frame_next, encoded_of, tail_begun, lacks_room, digit_beyond, tail_out, send_of}
use Rattle.encoder.specs.Calls.{Call, information, tail, call_of, given_by, frames_given, takes, information_taken, tail_taken}
use Rattle.encoder.specs.declared.Session.{Session}
use Rattle.encoder.proofs.Outcomes.{send-begun, send-full, send-beyond, send-taken, tail-out, tail-taken}

-- ---- a call is taken or refused

pub record Taken (s : Session) (f : ℕ) : Type 0 where
  pub taken : takes s f ≡ true
  pub no_tail : s.tail ≡ 0
  pub is : send_of s f ≡ encoded_of s f (s.sent + 1) s.tail

pub record NotTaken (s : Session) (f : ℕ) : Type 0 where
  pub refused : takes s f ≡ false
  pub number : ℕ
  pub is : send_of s f ≡ refused_of s number

pub information-outcome : (s : Session) (f : ℕ) → Taken s f ⊎ NotTaken s f
unfolding takes
information-outcome s f = begun (tail_begun s) refl
  where
    beyond : tail_begun s ≡ false → lacks_room s ≡ false → (b : Bool) → digit_beyond s f ≡ b → Taken s f ⊎ NotTaken s f
    beyond t n true e = inr (record { refused = rw (t, n, e); number = 11; is = send-beyond s f t n e })
    beyond t n false e = inl (record { taken = rw (t, n, e); no_tail = omega (arith, ltb-false 0 s.tail t); is = send-taken s f t n e })

    full : tail_begun s ≡ false → (b : Bool) → lacks_room s ≡ b → Taken s f ⊎ NotTaken s f
    full t true e = inr (record { refused = rw (t, e); number = 15; is = send-full s f t e })
    full t false e = beyond t e (digit_beyond s f) refl

    begun : (b : Bool) → tail_begun s ≡ b → Taken s f ⊎ NotTaken s f
    begun true e = inr (record { refused = rw e; number = 16; is = send-begun s f e })
    begun false e = full e (lacks_room s) refl

pub tail-outcome : (s : Session) → (tail_out s ≡ true) ⊎ (tail_out s ≡ false)
tail-outcome s = go (tail_out s) refl
  where
    go : (b : Bool) → tail_out s ≡ b → (tail_out s ≡ true) ⊎ (tail_out s ≡ false)
    go true e = inl e
    go false e = inr e

-- once the tail has begun no information is taken
pub none_after-tail : (calls : List Call) (s : Session) → 0 < s.tail → information_taken s calls ≡ []
unfolding information_taken takes refused_of encoded_of
none_after-tail [] s l = refl
none_after-tail (information f ∷ calls) s l =
    let e : tail_begun s ≡ true = lt-ltb 0 s.tail l in
    rw e (ap (λ (r : SendOutcome). information_taken r.session calls) (send-begun s f e) ∙ none_after-tail calls s l)
none_after-tail (tail ∷ calls) s l =
    ⊎_elim
    (λ (e : tail_out s ≡ true). ap (λ (r : SendOutcome). information_taken r.session calls) (tail-out s e) ∙ none_after-tail calls s l)
    (λ (e : tail_out s ≡ false).
    ap (λ (r : SendOutcome). information_taken r.session calls) (tail-taken s e)
    ∙ none_after-tail calls (encoded_of s 0 s.sent (s.tail + 1)).session (omega arith))
    (tail-outcome s)

-- ---- a call and those after it

-- the call gives these frames out, takes this information and so many tail frames, and hands the session s' on
pub record Step (s s' : Session) (call : Call) (calls : List Call) (frames information : List ℕ) (tails : ℕ) : Type 0 where
  pub frames-are : frames_given s (call ∷ calls) ≡ frames ++ frames_given s' calls
  pub information-is : information_taken s (call ∷ calls) ≡ information ++ information_taken s' calls
  pub tails-are : tail_taken s (call ∷ calls) ≡ tails + tail_taken s' calls

module _ (s : Session) (calls : List Call) where
  pub information-taken : (f : ℕ) → Taken s f → Step s (encoded_of s f (s.sent + 1) s.tail).session (information f) calls (frame_next s f ∷ []) (f ∷ []) 0
  unfolding frames_given information_taken tail_taken call_of given_by encoded_of
  information-taken f w =
      record {
        frames-are = ap (λ (r : SendOutcome). given_by r.outcome ++ frames_given r.session calls) w.is;
        information-is = ap₂ (λ (b : Bool) (r : SendOutcome). cond b (f ∷ []) [] ++ information_taken r.session calls) w.taken w.is;
        tails-are = ap (λ (r : SendOutcome). tail_taken r.session calls) w.is ∙ sym (zero-add _);
      }

  pub information_refused : (f : ℕ) → NotTaken s f → Step s s (information f) calls [] [] 0
  unfolding frames_given information_taken tail_taken call_of given_by refused_of
  information_refused f w =
      record {
        frames-are = ap (λ (r : SendOutcome). given_by r.outcome ++ frames_given r.session calls) w.is;
        information-is = ap₂ (λ (b : Bool) (r : SendOutcome). cond b (f ∷ []) [] ++ information_taken r.session calls) w.refused w.is;
        tails-are = ap (λ (r : SendOutcome). tail_taken r.session calls) w.is ∙ sym (zero-add _);
      }

  pub tail-sent : tail_out s ≡ false → Step s (encoded_of s 0 s.sent (s.tail + 1)).session tail calls (frame_next s 0 ∷ []) [] 1
  unfolding frames_given information_taken tail_taken call_of given_by encoded_of
  tail-sent e =
      record {
        frames-are = ap (λ (r : SendOutcome). given_by r.outcome ++ frames_given r.session calls) (tail-taken s e);
        information-is = ap (λ (r : SendOutcome). information_taken r.session calls) (tail-taken s e);
        tails-are = ap₂ (λ (b : Bool) (r : SendOutcome). cond b 0 1 + tail_taken r.session calls) e (tail-taken s e);
      }

  pub tail_refused : tail_out s ≡ true → Step s s tail calls [] [] 0
  unfolding frames_given information_taken tail_taken call_of given_by refused_of
  tail_refused e =
      record {
        frames-are = ap (λ (r : SendOutcome). given_by r.outcome ++ frames_given r.session calls) (tail-out s e);
        information-is = ap (λ (r : SendOutcome). information_taken r.session calls) (tail-out s e);
        tails-are = ap₂ (λ (b : Bool) (r : SendOutcome). cond b 0 1 + tail_taken r.session calls) e (tail-out s e);
      }
