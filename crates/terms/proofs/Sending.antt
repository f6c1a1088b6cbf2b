-- What the promises of the sending calls come to on the page: for a session, call by call over the calls before it; and for a burst.
use Prim.Native.Nat.{ℕ, suc, ◌+◌, ◌^◌, min}
use mathlib.Core.Path.{◌≡◌, refl, sym, ap, ap₂, ◌∙◌}
use mathlib.Core.Bool.{Bool, true, false, cond}
use mathlib.Core.Logic.{⊎_elim}
use mathlib.Core.List.{List, [], ◌∷◌, ◌++◌, append-nil}
use native.Mathlib.Omega.{arith}
use lib.ListN.{length, get_or, length-append}
use lib.Seq.{get_or-take}
use lib.Dec.{leb, ltb}
use lib.IntN.{ℤ}
use borrow.Author.Tests.{lt-ltb, le-ltb, lt-leb, le-leb, ltb-false}
use Rattle.bits.proofs.Cases.{le-or-lt}
use Rattle.bits.proofs.Lists.{snoc-last}
use Rattle.code.specs.Code.{most_frames, sent}
use Rattle.code.specs.declared.Card.{Card}
use Rattle.code.proofs.Sent.{sent-length}
use Rattle.code.specs.Guarantees.{Guarantees}
use Rattle.card.specs.Promise.{CardPromise}
use Rattle.card.specs.Reading.{read_card}
use Rattle.std.specs.Prelude.{Result}
use Rattle.card.specs.declared.Fault.{Fault}
use Rattle.card.specs.declared.Opened.{Opened}
use Rattle.card.specs.declared.CardRule.TheVariants.{Present}
use Rattle.encoder.specs.Outcome.{Outcome, frame, refused, SendOutcome}
use Rattle.encoder.specs.Sending.{tail_begun, lacks_room, digit_beyond, tail_out, refused_of, encoded_of, send_tail_of}
use Rattle.encoder.specs.Sending as sender
use Rattle.encoder.specs.Calls.{Call, information, tail, call_of, given_by, frames_given, takes, information_taken, tail_taken, session_after, answers}
use Rattle.encoder.specs.Claims.{Claims}
use Rattle.encoder.specs.Opening.{OpenPromise}
use Rattle.encoder.specs.declared.Session.{Session}
use Rattle.encoder.proofs.Outcomes.{send-taken, tail-taken}
use Rattle.outcomes.specs.Outcome.{outcome, with_room}
use Rattle.outcomes.proofs.Received.{guaranteed}
use Rattle.outcomes.specs.Sending.{send_under, send_of}
use Rattle.terms.specs.Terms.{beyond, BurstSent, send_answers, Sends}
use Rattle.terms.proofs.SendingCalls.{session-joined, frames-joined, information-joined, tails-joined, unchanged, closed-refuses}
use Rattle.terms.proofs.Told.{beyond-is, by_first, told-first, card_refused, card_accepted}

-- a test that both sides make, and what is known where it fails
chosen : {A B : Type 0} (f : A → B) (t : Bool) {b : Bool} {x y : A} {x' y' : B} → t ≡ b → f x ≡ x' → (t ≡ false → f y ≡ y') → f (cond t x y) ≡ cond b x' y'
chosen f true {x' = x'} {y' = y'} e p q = p ∙ ap (λ (b : Bool). cond b x' y') e
chosen f false {x' = x'} {y' = y'} e p q = q refl ∙ ap (λ (b : Bool). cond b x' y') e

swapped : {A : Type 0} (m v : ℕ) (x y : A) → cond (leb m v) x y ≡ cond (ltb v m) y x
swapped m v x y = ⊎_elim (λ l. rw (le-leb m v l, le-ltb v m l)) (λ l. rw (lt-leb m v l, lt-ltb v m l)) (le-or-lt m v)

-- what a call answers, and then those after it
abbrev answers_from : List Call → SendOutcome → List Outcome
answers_from calls r = r.outcome ∷ answers r.session calls

-- after these calls on s the answers to the others are the page's
abbrev Agreed : Card → Session → List Call → List Call → Type 0
Agreed c s before calls = answers (session_after s before) calls ≡ send_answers c (information_taken s before) (tail_taken s before) calls

module _ (c : Card) (G : Guarantees c) (s : Session) (claims : Claims c s) where
  module _ (before calls : List Call) where
    abbrev s' : Session
    s' = session_after s before

    abbrev info : List ℕ
    info = information_taken s before

    abbrev tails : ℕ
    tails = tail_taken s before

    m-is : min s'.card.m 31 ≡ c.m
    m-is = omega (arith, ap (λ (c : Card). c.m) (claims.card_kept before), G.m_most)

    k-is : min s'.card.k 4 ≡ c.k
    k-is = omega (arith, ap (λ (c : Card). c.k) (claims.card_kept before), G.k_most)

    refused-agrees : Agreed c s before calls → (n : ℕ) → answers_from calls (refused_of s' n) ≡ refused n ∷ send_answers c info tails calls
    unfolding refused_of
    refused-agrees same n = ap (λ (l : List Outcome). refused n ∷ l) same

    -- a call that gives the frame x out, which is sent at this place
    module _ (call : Call) {r : SendOutcome} (is : call_of s' call ≡ r) {x : ℕ} (given : r.outcome ≡ frame x) (place : ℕ) (place_is : place ≡ length info + tails) where
      abbrev after : List Call
      after = before ++ (call ∷ [])

      frame_is : x ≡ get_or (sent c (information_taken s after)) place 0
      unfolding given_by frames_given
      frame_is =
          let frames : frames_given s after ≡ frames_given s before ++ (x ∷ []) =
          frames-joined before (call ∷ []) s ∙ ap (λ (r : SendOutcome). frames_given s before ++ (given_by r.outcome ++ [])) is ∙ rw given in
          let count = ap length frames ∙ length-append (frames_given s before) (x ∷ []) in
          sym (snoc-last (frames_given s before) x place (place_is ∙ sym (claims.frames_counted before)))
          ∙ ap (λ (l : List ℕ). get_or l place 0) (sym frames ∙ claims.frames_are_sent after)
          ∙ get_or-take (length (frames_given s after)) (sent c (information_taken s after)) place 0 (omega (arith, claims.frames_counted before))

      given-agrees : (info' : List ℕ) (tails' : ℕ) → information_taken s after ≡ info' → tail_taken s after ≡ tails' → Agreed c s after calls
          → answers_from calls r ≡ frame (get_or (sent c info') place 0) ∷ send_answers c info' tails' calls
      unfolding session_after
      given-agrees info' tails' i t later = cc (frame_is, session-joined before (call ∷ []) s)

    information-agrees : (f : ℕ) → Agreed c s before calls → Agreed c s (before ++ (information f ∷ [])) calls → Agreed c s before (information f ∷ calls)
    unfolding answers send_answers call_of takes information_taken tail_taken encoded_of sender.send_of
    information-agrees f same later =
        let info' = info ++ (f ∷ []) in
        let from = answers_from calls in
        chosen from (tail_begun s') (ap (ltb 0) (claims.tail_counted before)) (refused-agrees same 16)
        (λ t.
        chosen from (lacks_room s') (ap₂ (λ (n m : ℕ). ltb most_frames (n + 1 + m)) (claims.information_counted before) m-is) (refused-agrees same 15)
        (λ n.
        chosen from (digit_beyond s' f) (ap (λ (k : ℕ). leb (2 ^ k) f) k-is) (refused-agrees same 11)
        (λ d.
        given-agrees (information f) (send-taken s' f t n d) refl (length info) (omega (arith, ltb-false 0 s'.tail t, claims.tail_counted before)) info' tails
        (information-joined before (information f ∷ []) s ∙ rw (t, n, d)) (omega (arith, tails-joined before (information f ∷ []) s)) later)))
        ∙ sym
        (by_first (frame (get_or (sent c info') (length info) 0) ∷ send_answers c info' tails calls) (λ n. refused n ∷ send_answers c info tails calls) 15 14 10
        (ltb 0 tails) (ltb most_frames (length info + 1 + c.m)) (leb (2 ^ c.k) f))

    tail-agrees : Agreed c s before calls → Agreed c s (before ++ (tail ∷ [])) calls → Agreed c s before (tail ∷ calls)
    unfolding answers send_answers call_of information_taken tail_taken encoded_of send_tail_of
    tail-agrees same later =
        chosen (answers_from calls) (tail_out s') (ap₂ leb m-is (claims.tail_counted before)) (refused-agrees same 17)
        (λ t.
        given-agrees tail (tail-taken s' t) refl (length info + tails) refl info (suc tails)
        (information-joined before (tail ∷ []) s ∙ append-nil info) (tails-joined before (tail ∷ []) s ∙ rw t (omega arith)) later)
        ∙ swapped c.m tails _ _

  calls-agree : (calls before : List Call) → Agreed c s before calls
  unfolding answers send_answers
  calls-agree [] before = refl
  calls-agree (information f ∷ calls) before = information-agrees before calls f (calls-agree calls before) (calls-agree calls (before ++ (information f ∷ [])))
  calls-agree (tail ∷ calls) before = tail-agrees before calls (calls-agree calls before) (calls-agree calls (before ++ (tail ∷ [])))

-- ---- the session that opening gives

pub sends : (bytes : List ℕ) (read : Result Card Fault) → CardPromise Present bytes read → (r : Opened Session) → OpenPromise bytes r → Sends (read_card bytes) r.session
unfolding information_taken tail_taken session_after
sends bytes read card r promise =
    record {
      answered =
          λ e calls. calls-agree (read_card bytes).card (guaranteed bytes read card e) r.session (promise.claims (promise.verdict_is ∙ e)) calls [];
      unchanged = λ calls. unchanged (session_after r.session calls);
      closed = λ number offset e. closed-refuses r.session (promise.shut number offset (promise.verdict_is ∙ e));
    }

-- ---- a burst

pub burst-sent : (card input output : List ℕ) {answer : ℤ} {after : List ℕ} → outcome answer after ≡ send_of card input output
    → BurstSent (read_card card) input output answer after
unfolding with_room send_under send_of
burst-sent card input output e =
    let c = (read_card card).card in
    let many = length input + c.m in
    record {
      card_refused = card_refused output (read_card card).outcome (send_under c input output) e;
      told =
          λ q.
          told-first output (sent c input) (ltb 1048576 many) (ltb (length output) many) (beyond c.k input)
          (card_accepted output (read_card card).outcome (send_under c input output) e q ∙ rw (sent-length c input, beyond-is c.k input));
    }
