-- A session that keeps its card and counts the frames taken: by the page, which knows of no session, the same calls are taken, and the answers to all calls
-- are told by those to the calls that are taken.
use Prim.Native.Nat.{ℕ, zero, suc, ◌+◌, ◌-◌, ◌≤◌, ◌<◌}
use mathlib.Core.Path.{◌≡◌, refl, sym, ap, ap₂, ◌∙◌, subst}
use mathlib.Core.Bool.{Bool, true, false, cond}
use mathlib.Core.Logic.{◌⊎◌, inl, inr, ⊎_elim}
use mathlib.Core.List.{List, [], ◌∷◌, ◌++◌, map, append_assoc}
use native.Mathlib.Omega.{arith}
use lib.ListN.{length, get_or, drop, length-append, length-map, drop_of_length-le}
use lib.Seq.{drop-cons}
use lib.Dec.{ltb}
use borrow.Author.Tests.{eq-eqb, ne_eqb}
use Rattle.bits.proofs.Cases.{le-or-lt}
use Rattle.code.specs.Guarantees.{Guarantees}
use Rattle.code.specs.declared.Card.{Card}
use Rattle.receiving.specs.Answers.{Given, waiting, frame, Reply}
use Rattle.receiving.specs.Answers as answer
use Rattle.receiving.specs.Calls as call
use Rattle.receiving.specs.Calls.{Call, reply_of, taken_parts, taken_frames, taken_answers, answers, session_after}
use Rattle.receiving.specs.Readings.{yields, refuses}
use Rattle.receiving.specs.Receive.{Circuit, refused_of}
use Rattle.receiving.proofs.Outcomes.{admission, outcome, reply-refused}
use Rattle.terms.specs.Terms.{refusal, taken_calls, answers_to, read_now}
use Rattle.terms.proofs.Calls.{admission-is}
use Rattle.terms.proofs.Told.{settled, settled-some}

-- ---- calls after others
module _ {S : Type 0} (x : Circuit S) where
  pub session-append : (before calls : List Call) (s : S) → session_after x s (before ++ calls) ≡ session_after x (session_after x s before) calls
  unfolding session_after
  session-append [] calls s = refl
  session-append (a ∷ before) calls s = session-append before calls (reply_of x s a).session

  parts-append : (part : ℕ → Call → ℕ) (before calls : List Call) (s : S)
      → taken_parts part x s (before ++ calls) ≡ taken_parts part x s before ++ taken_parts part x (session_after x s before) calls
  unfolding taken_parts session_after
  parts-append part [] calls s = refl
  parts-append part (a ∷ before) calls s =
      let first = cond (call.taken (x.card s) (x.received s) a) (part ((x.card s).k + (x.card s).p) a ∷ []) [] in
      ap (λ (l : List ℕ). first ++ l) (parts-append part before calls (reply_of x s a).session) ∙ sym (append_assoc first _ _)

-- ---- a call that is taken or refused, by the page
module _ (c : Card) (G : Guarantees c) (t : ℕ) (a : Call) where
  pub record Refused : Type 0 where
    pub number : ℕ
    pub is : refusal read_now c t a ≡ suc number
    pub not_taken : call.taken c t a ≡ false
    pub admitted : admission c t a ≡ refuses (suc number)

  pub record Taken : Type 0 where
    pub is : refusal read_now c t a ≡ 0
    pub is-taken : call.taken c t a ≡ true
    pub admitted : admission c t a ≡ yields (call.frame_in (c.k + c.p) a) (call.erased_in (c.k + c.p) a)

  pub taken-or-refused : Taken ⊎ Refused
  taken-or-refused = go (refusal read_now c t a) refl
    where
      go : (n : ℕ) → refusal read_now c t a ≡ n → Taken ⊎ Refused
      go zero e =
          let q = admission-is c G t a ∙ ap (settled (yields (call.frame_in (c.k + c.p) a) (call.erased_in (c.k + c.p) a)) refuses) e in
          ⊎_elim (λ w. inl (record { is = e; is-taken = w.0; admitted = q }))
          (λ w. let z : ◌≡◌ {A = ℕ} 0 1 = cc (q, w.2) in absurd (omega arith)) (outcome c G t a)
      go (suc n) e =
          let q = admission-is c G t a ∙ ap (settled (yields (call.frame_in (c.k + c.p) a) (call.erased_in (c.k + c.p) a)) refuses) e ∙ settled-some _ refuses n in
          ⊎_elim (λ w. let z : ◌≡◌ {A = ℕ} 0 1 = cc (q, w.1) in absurd (omega arith))
          (λ w. inr (record { number = n; is = e; not_taken = w.0; admitted = q })) (outcome c G t a)

-- ---- a session that keeps its card and counts
module _ {S : Type 0} (x : Circuit S) (c : Card) (G : Guarantees c) (s : S) (card_kept : (calls : List Call) → x.card (session_after x s calls) ≡ c)
    (counted : (calls : List Call) → x.received (session_after x s calls) ≡ length (taken_frames x s calls)) where
  -- s' is the session after some calls, of which t were taken
  record After (t : ℕ) (s' : S) : Type 0 where
    before : List Call
    session_is : s' ≡ session_after x s before
    count_is : length (taken_frames x s before) ≡ t

  start : After 0 s
  unfolding session_after taken_parts
  start = record { before = []; session_is = refl; count_is = refl }

  module _ (t : ℕ) (s' : S) (A : After t s') where
    card_is : x.card s' ≡ c
    card_is = ap x.card A.session_is ∙ card_kept A.before

    received_is : x.received s' ≡ t
    received_is = ap x.received A.session_is ∙ counted A.before ∙ A.count_is

    admitted-as : (a : Call) → admission (x.card s') (x.received s') a ≡ admission c t a
    admitted-as a = ap₂ (λ (c : Card) (n : ℕ). admission c n a) card_is received_is

    taken_as : (a : Call) → call.taken (x.card s') (x.received s') a ≡ call.taken c t a
    taken_as a = ap₂ (λ (c : Card) (n : ℕ). call.taken c n a) card_is received_is

    parts_next : (part : ℕ → Call → ℕ) (a : Call) (calls : List Call) (b : Bool) → call.taken c t a ≡ b
        → taken_parts part x s' (a ∷ calls) ≡ cond b (part (c.k + c.p) a ∷ []) [] ++ taken_parts part x (reply_of x s' a).session calls
    unfolding taken_parts
    parts_next part a calls b e =
        ap₂ (λ (b : Bool) (c : Card). cond b (part (c.k + c.p) a ∷ []) [] ++ taken_parts part x (reply_of x s' a).session calls) (taken_as a ∙ e) card_is

    answers_next : (a : Call) (calls : List Call) (b : Bool) → call.taken c t a ≡ b
        → taken_answers x s' (a ∷ calls) ≡ cond b ((reply_of x s' a).answer ∷ []) [] ++ taken_answers x (reply_of x s' a).session calls
    unfolding taken_answers
    answers_next a calls b e = ap (λ (b : Bool). cond b ((reply_of x s' a).answer ∷ []) [] ++ taken_answers x (reply_of x s' a).session calls) (taken_as a ∙ e)

    after_next : (a : Call) (b : Bool) → call.taken c t a ≡ b → After (t + cond b 1 0) (reply_of x s' a).session
    unfolding session_after taken_parts
    after_next a b e =
        record {
          before = A.before ++ (a ∷ []);
          session_is = ap (λ (s : S). (reply_of x s a).session) A.session_is ∙ sym (session-append x A.before (a ∷ []) s);
          count_is =
              ap length (parts-append x call.frame_in A.before (a ∷ []) s) ∙ length-append (taken_frames x s A.before) _
              ∙ ap₂ ◌+◌ A.count_is (ap (λ (s : S). length (taken_frames x s (a ∷ []))) (sym A.session_is) ∙ ap length (parts_next call.frame_in a [] b e) ∙ one b _);
        }
      where
        one : (b : Bool) (f : ℕ) → length (cond b (f ∷ []) [] ++ []) ≡ cond b 1 0
        one true f = refl
        one false f = refl

    refused-next : (a : Call) (w : Refused c G t a) → reply_of x s' a ≡ refused_of s' (suc w.number)
    refused-next a w = reply-refused x s' a _ (admitted-as a ∙ w.admitted)

  -- what is taken
  taken-from : (part : ℕ → Call → ℕ) (calls : List Call) (t : ℕ) (s' : S) → After t s' → taken_parts part x s' calls ≡ map (part (c.k + c.p)) (taken_calls read_now c t calls)
  unfolding taken_calls taken_parts refused_of
  taken-from part [] t s' A = refl
  taken-from part (a ∷ calls) t s' A =
      ⊎_elim
      (λ (w : Taken c G t a).
      let n : t + 1 ≡ suc t = omega arith in
      parts_next t s' A part a calls true w.is-taken
      ∙ ap (λ (l : List ℕ). part (c.k + c.p) a ∷ l) (taken-from part calls (suc t) _ (subst (λ (n : ℕ). After n (reply_of x s' a).session) n (after_next t s' A a true w.is-taken)))
      ∙ sym (ap (λ (b : Bool). map (part (c.k + c.p)) (cond b (a ∷ taken_calls read_now c (suc t) calls) (taken_calls read_now c t calls))) (eq-eqb (refusal read_now c t a) 0 w.is)))
      (λ (w : Refused c G t a).
      parts_next t s' A part a calls false w.not_taken
      ∙ ap (λ (r : Reply S). taken_parts part x r.session calls) (refused-next t s' A a w)
      ∙ taken-from part calls t s' A
      ∙ sym
      (ap (λ (b : Bool). map (part (c.k + c.p)) (cond b (a ∷ taken_calls read_now c (suc t) calls) (taken_calls read_now c t calls)))
      (ne_eqb (refusal read_now c t a) 0 (λ z. let e = w.is in omega arith))))
      (taken-or-refused c G t a)

  pub taken_is : (part : ℕ → Call → ℕ) (calls : List Call) → taken_parts part x s calls ≡ map (part (c.k + c.p)) (taken_calls read_now c 0 calls)
  taken_is part calls = taken-from part calls 0 s start

  -- what is answered: where the calls that are taken get the answers `given` from t on, and these are those of their turns
  module _ (out : ℕ → ℕ) (given : List Given) (in-turn : (u : ℕ) → u < length given → get_or given u waiting ≡ cond (ltb u c.m) waiting (frame (out (u - c.m)))) where
    answered-from : (calls : List Call) (t : ℕ) (s' : S) → After t s' → taken_answers x s' calls ≡ drop t given → answers x s' calls ≡ answers_to read_now c out t calls
    unfolding answers_to answers refused_of
    answered-from [] t s' A e = refl
    answered-from (a ∷ calls) t s' A e =
        ⊎_elim
        (λ (w : Taken c G t a).
        let n : t + 1 ≡ suc t = omega arith in
        let q : drop t given ≡ (reply_of x s' a).answer ∷ taken_answers x (reply_of x s' a).session calls = sym e ∙ answers_next t s' A a calls true w.is-taken in
        let l = within t _ _ q in
        let d = drop-cons given t waiting l in
        let h : (reply_of x s' a).answer ≡ get_or given t waiting = cc (q, d) in
        let r : taken_answers x (reply_of x s' a).session calls ≡ drop (suc t) given = cc (q, d) in
        ap₂ (λ (g : Given) (l : List Given). g ∷ l) (h ∙ in-turn t l)
        (answered-from calls (suc t) _ (subst (λ (n : ℕ). After n (reply_of x s' a).session) n (after_next t s' A a true w.is-taken)) r)
        ∙ sym
        (ap (λ (b : Bool). cond b (cond (ltb t c.m) waiting (frame (out (t - c.m))) ∷ answers_to read_now c out (suc t) calls) (answer.refused (refusal read_now c t a) ∷ answers_to read_now c out t calls))
        (eq-eqb (refusal read_now c t a) 0 w.is)))
        (λ (w : Refused c G t a).
        let r = refused-next t s' A a w in
        ap (λ (r : Reply S). r.answer ∷ answers x r.session calls) r
        ∙ ap₂ (λ (n : ℕ) (l : List Given). answer.refused n ∷ l) (sym w.is)
        (answered-from calls t s' A (ap (λ (r : Reply S). taken_answers x r.session calls) (sym r) ∙ sym (answers_next t s' A a calls false w.not_taken) ∙ e))
        ∙ sym
        (ap (λ (b : Bool). cond b (cond (ltb t c.m) waiting (frame (out (t - c.m))) ∷ answers_to read_now c out (suc t) calls) (answer.refused (refusal read_now c t a) ∷ answers_to read_now c out t calls))
        (ne_eqb (refusal read_now c t a) 0 (λ z. let e = w.is in omega arith))))
        (taken-or-refused c G t a)
      where
        within : (t : ℕ) (g : Given) (rest : List Given) → drop t given ≡ g ∷ rest → t < length given
        within t g rest q =
            ⊎_elim (λ (l : length given ≤ t). let z : 0 ≡ suc (length rest) = ap length (sym (drop_of_length-le given l) ∙ q) in absurd (omega arith)) (λ l. l) (le-or-lt (length given) t)

    pub answered : (calls : List Call) → taken_answers x s calls ≡ given → answers x s calls ≡ answers_to read_now c out 0 calls
    answered calls e = answered-from calls 0 s start e

  -- a refused call
  pub unchanged : (calls : List Call) (a : Call) → (refusal read_now c (length (taken_calls read_now c 0 calls)) a ≡ 0 → ⊥) → session_after x s (calls ++ (a ∷ [])) ≡ session_after x s calls
  unfolding session_after refused_of
  unchanged calls a ne =
      let s' = session_after x s calls in
      let t = length (taken_calls read_now c 0 calls) in
      let A : After t s' = record { before = calls; session_is = refl; count_is = ap length (taken_is call.frame_in calls) ∙ simp length-map } in
      session-append x calls (a ∷ []) s
      ∙ ⊎_elim (λ (w : Taken c G t a). absurd (ne w.is)) (λ (w : Refused c G t a). ap (λ (r : Reply S). r.session) (refused-next t s' A a w)) (taken-or-refused c G t a)
