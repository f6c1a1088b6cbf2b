-- Over any list of calls on an opened session the frames given out are those that are sent for the information taken.
-- The whole final list of information is fixed, and time counts the frames given out: n information frames, then v of the tail.
use Prim.Native.Nat.{ℕ, suc, ◌+◌, ◌≤◌, ◌<◌, min}
use mathlib.Core.Path.{◌≡◌, refl, sym, ap, ap₂, ◌∙◌, subst}
use mathlib.Core.Bool.{true, false}
use mathlib.Core.Logic.{⊎_elim}
use mathlib.Core.List.{List, [], ◌∷◌}
use native.Mathlib.Nat.{zero-add}
use native.Mathlib.Omega.{arith}
use lib.ListN.{length, get_or, take, drop, length-append, length-drop, get_or-eq_default}
use lib.Seq.{drop-cons, length-take-le, take_all}
use borrow.Author.Tests.{leb-false}
use Rattle.bits.proofs.Lists.{dropped-head, dropped-rest, dropped-within}
use Rattle.code.specs.Code.{with_tail, sent_frame, sent}
use Rattle.code.specs.Guarantees.{Guarantees}
use Rattle.code.specs.Registers.{history_by}
use Rattle.code.specs.declared.Card.{Card}
use Rattle.code.proofs.Registers.{HistoryBefore, history-start, history-length}
use Rattle.code.proofs.Sending.{turn-history, turn-frame}
use Rattle.code.proofs.Sent.{sent-length, sent-at}
use Rattle.encoder.specs.Sending.{open_of, history_next, frame_next, encoded_of, tail_out}
use Rattle.encoder.specs.Calls.{Call, information, tail, frames_given, information_taken, tail_taken}
use Rattle.encoder.specs.Claims.{Claims}
use Rattle.encoder.specs.declared.Session.{Session}
use Rattle.encoder.proofs.Counting as counting
use Rattle.encoder.proofs.Calls.{Taken, NotTaken, information-outcome, tail-outcome, none_after-tail, Step, information-taken, information_refused, tail-sent, tail_refused}

-- the session with card c, these registers, n information frames taken and v tail frames out
abbrev session : Card → List ℕ → ℕ → ℕ → Session
session c h n v = record { card = c; history = h; sent = n; tail = v }

-- what a list of calls gives out and counts from a session on, where t frames of the stream are out already
record Followed (c : Card) (stream : List ℕ) (t : ℕ) (calls : List Call) (s : Session) : Type 0 where
  frames-are : frames_given s calls ≡ take (length (information_taken s calls) + tail_taken s calls) (drop t stream)
  tail-most : s.tail + tail_taken s calls ≤ c.m

-- a refused call changes nothing
carry-refused : (c : Card) (stream : List ℕ) (t : ℕ) (s : Session) (call : Call) (calls : List Call) → Step s s call calls [] [] 0
    → Followed c stream t calls s → Followed c stream t (call ∷ calls) s
carry-refused c stream t s call calls w r =
    let e : tail_taken s (call ∷ calls) ≡ tail_taken s calls = w.tails-are ∙ zero-add _ in
    record {
      frames-are = w.frames-are ∙ r.frames-are ∙ sym (ap₂ (λ (l : List ℕ) (n : ℕ). take (length l + n) (drop t stream)) w.information-is e);
      tail-most = omega (arith, r.tail-most);
    }

-- a call that gives the frame of time t out
carry-sent : (c : Card) (stream : List ℕ) (t t' x : ℕ) (info : List ℕ) (n : ℕ) (s s' : Session) (call : Call) (calls : List Call)
    → Step s s' call calls (x ∷ []) info n → drop t stream ≡ x ∷ drop t' stream → length info + n ≡ 1 → s'.tail ≡ s.tail + n
    → Followed c stream t' calls s' → Followed c stream t (call ∷ calls) s
carry-sent c stream t t' x info n s s' call calls w d one q r =
    let count : length (information_taken s (call ∷ calls)) + tail_taken s (call ∷ calls) ≡ suc (length (information_taken s' calls) + tail_taken s' calls) =
    omega (arith, ap length w.information-is ∙ length-append info (information_taken s' calls), w.tails-are) in
    record {
      frames-are = w.frames-are ∙ ap (λ (l : List ℕ). x ∷ l) r.frames-are ∙ sym (ap₂ (λ (a : ℕ) (l : List ℕ). take a l) count d);
      tail-most = omega (arith, r.tail-most, w.tails-are);
    }

module _ (c : Card) (G : Guarantees c) (info : List ℕ) where
  stream-from : (t t' x : ℕ) → t < length info + c.m → t' ≡ suc t → x ≡ sent_frame c (with_tail c info) t → drop t (sent c info) ≡ x ∷ drop t' (sent c info)
  stream-from t t' x l q e =
      drop-cons (sent c info) t 0 (omega (arith, sent-length c info)) ∙ ap₂ (λ (y n : ℕ). y ∷ drop n (sent c info)) (sent-at c info t l ∙ sym e) (sym q)

  follow : (calls : List Call) (n v : ℕ) (h : List ℕ) → n ≤ length info → v ≤ c.m → length h ≡ 4 → HistoryBefore c (with_tail c info) (n + v) h
      → drop n info ≡ information_taken (session c h n v) calls → Followed c (sent c info) (n + v) calls (session c h n v)
  unfolding frames_given information_taken tail_taken encoded_of history_next frame_next
  follow [] n v h hn hv four H e = record { frames-are = refl; tail-most = omega arith }
  follow (information f ∷ calls) n v h hn hv four H e =
      let s = session c h n v in
      ⊎_elim
      (λ (w : Taken s f).
      let q = information-taken s calls f w in
      let h' = history_by h c.k f in
      let e₀ : drop n info ≡ f ∷ information_taken (session c h' (n + 1) v) calls = e ∙ q.information-is in
      let z : v ≡ 0 = w.no_tail in
      let l = dropped-within info n f _ e₀ in
      let z₁ : n ≡ n + v = omega arith in
      let hf : f ≡ get_or info (n + v) 0 = dropped-head info n f _ e₀ ∙ ap (λ (t : ℕ). get_or info t 0) z₁ in
      let enough : c.k ≤ length h = omega (arith, G.k_most) in
      let t : suc (n + v) ≡ n + 1 + v = omega arith in
      carry-sent c (sent c info) (n + v) (n + 1 + v) (frame_next s f) (f ∷ []) 0 s (session c h' (n + 1) v) (information f) calls q
      (stream-from (n + v) (n + 1 + v) (frame_next s f) (omega arith) (sym t) (turn-frame c G info (n + v) h f hf enough H)) refl (omega arith)
      (follow calls (n + 1) v h' (omega arith) hv (history-length h c.k f ∙ four) (subst (λ (x : ℕ). HistoryBefore c (with_tail c info) x h') t (turn-history c G info (n + v) h f hf enough H))
      (dropped-rest info n f _ e₀)))
      (λ (w : NotTaken s f).
      let q = information_refused s calls f w in
      carry-refused c (sent c info) (n + v) s (information f) calls q (follow calls n v h hn hv four H (e ∙ q.information-is)))
      (information-outcome s f)
  follow (tail ∷ calls) n v h hn hv four H e =
      let s = session c h n v in
      ⊎_elim
      (λ (w : tail_out s ≡ true).
      let q = tail_refused s calls w in
      carry-refused c (sent c info) (n + v) s tail calls q (follow calls n v h hn hv four H (e ∙ q.information-is)))
      (λ (w : tail_out s ≡ false).
      let q = tail-sent s calls w in
      let h' = history_by h c.k 0 in
      let e₀ : drop n info ≡ information_taken (session c h' n (v + 1)) calls = e ∙ q.information-is in
      let none : information_taken (session c h' n (v + 1)) calls ≡ [] = none_after-tail calls (session c h' n (v + 1)) (omega arith) in
      let l : length info ≤ n = omega (arith, length-drop n info, ap length (e₀ ∙ none)) in
      let room : v < c.m = omega (arith, leb-false (min c.m 31) v w, G.m_most) in
      let hf : 0 ≡ get_or info (n + v) 0 = sym (get_or-eq_default info 0 (omega arith)) in
      let enough : c.k ≤ length h = omega (arith, G.k_most) in
      let t : suc (n + v) ≡ n + (v + 1) = omega arith in
      carry-sent c (sent c info) (n + v) (n + (v + 1)) (frame_next s 0) [] 1 s (session c h' n (v + 1)) tail calls q
      (stream-from (n + v) (n + (v + 1)) (frame_next s 0) (omega arith) (sym t) (turn-frame c G info (n + v) h 0 hf enough H)) refl refl
      (follow calls n (v + 1) h' hn (omega arith) (history-length h c.k 0 ∙ four) (subst (λ (x : ℕ). HistoryBefore c (with_tail c info) x h') t (turn-history c G info (n + v) h 0 hf enough H)) e₀))
      (tail-outcome s)

-- ---- the claim

module _ (c : Card) (G : Guarantees c) (calls : List Call) where
  from_start : Followed c (sent c (information_taken (open_of c) calls)) 0 calls (open_of c)
  unfolding open_of
  from_start =
      let info = information_taken (open_of c) calls in
      follow c G info calls 0 0 (open_of c).history (omega arith) (omega arith) refl (history-start c (with_tail c info)) refl

  sent-first : frames_given (open_of c) calls ≡ take (length (information_taken (open_of c) calls) + tail_taken (open_of c) calls) (sent c (information_taken (open_of c) calls))
  sent-first = from_start.frames-are

  counted : length (frames_given (open_of c) calls) ≡ length (information_taken (open_of c) calls) + tail_taken (open_of c) calls
  unfolding open_of
  counted =
      let info = information_taken (open_of c) calls in
      let n = length info + tail_taken (open_of c) calls in
      ap length sent-first ∙ length-take-le n (sent c info) (omega (arith, from_start.tail-most, sent-length c info))

  whole : tail_taken (open_of c) calls ≡ c.m → frames_given (open_of c) calls ≡ sent c (information_taken (open_of c) calls)
  whole e =
      let info = information_taken (open_of c) calls in
      let n = length info + tail_taken (open_of c) calls in
      sent-first ∙ take_all n (sent c info) (omega (arith, sent-length c info))

pub calls-follow-code : (c : Card) → Guarantees c → Claims c (open_of c)
unfolding open_of
calls-follow-code c G =
    record {
      frames_are_sent = λ calls. sent-first c G calls ∙ ap (λ (n : ℕ). take n (sent c (information_taken (open_of c) calls))) (sym (counted c G calls));
      frames_counted = counted c G;
      stream_is_sent = whole c G;
      card_kept = λ calls. (counting.counted calls (open_of c)).card_kept;
      information_counted = λ calls. (counting.counted calls (open_of c)).information_counted ∙ zero-add _;
      tail_counted = λ calls. (counting.counted calls (open_of c)).tail_counted ∙ zero-add _;
    }
