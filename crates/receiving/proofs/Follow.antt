-- Any list of calls on a session follows its rule, if a frame that is taken does; and sessions of two kinds that follow the same answers give the same
-- answers, call by call.
use Prim.Native.Nat.{ℕ, suc, ◌+◌, ◌≤◌, ◌<◌}
use mathlib.Core.Path.{◌≡◌, refl, sym, ap, ap₂, ◌∙◌, subst}
use mathlib.Core.Bool.{Bool, true, false, cond}
use mathlib.Core.Logic.{⊎_elim}
use mathlib.Core.List.{List, [], ◌∷◌, ◌++◌}
use native.Mathlib.Numerals.{add-one}
use native.Mathlib.Omega.{arith}
use lib.ListN.{length, get_or, drop, length-drop, drop_of_length-le}
use lib.Seq.{drop-cons}
use Rattle.bits.proofs.Lists.{dropped-head, dropped-rest, dropped-within}
use Rattle.code.specs.Guarantees.{Guarantees}
use Rattle.code.specs.declared.Card.{Card}
use Rattle.receiving.specs.Answers.{Given, waiting, refused, Reply}
use Rattle.receiving.specs.Readings.{yields, refuses}
use Rattle.receiving.specs.Receive.{Circuit, refused_of}
use Rattle.receiving.specs.Calls.{Call, reply_of, frame_in, erased_in, taken, taken_parts, taken_frames, taken_erased, handed_by, handed_in, answers, frames_handed_out, taken_answers, session_after}
use Rattle.receiving.proofs.Outcomes.{admission, outcome, reply-taken, reply-refused}

-- what holds of a session after t of the frames; a frame that is taken keeps it, and gets its place among the answers
pub record Follows {S : Type 0} (x : Circuit S) (c : Card) (frames erased : List ℕ) (given : List Given) : Type 1 where
  pub After : ℕ → S → Type 0
  pub card_is : (t : ℕ) (s : S) → After t s → x.card s ≡ c
  pub received_is : (t : ℕ) (s : S) → After t s → x.received s ≡ t
  pub step : (t f e : ℕ) (s : S) → After t s → t < length frames → f ≡ get_or frames t 0 → e ≡ get_or erased t 0
      → ((x.take s f e).answer ≡ get_or given t waiting) × After (suc t) (x.take s f e).session

-- the frames from time t on are f and then others: so are those after it
rest-is : (frames : List ℕ) (t f : ℕ) (rest : List ℕ) → drop t frames ≡ f ∷ rest → drop (suc t) frames ≡ rest
rest-is frames t f rest e = ap (λ (n : ℕ). drop n frames) (sym (add-one t)) ∙ dropped-rest frames t f rest e

-- ---- one call on a session that is as it is after t frames
module _ {S : Type 0} (x : Circuit S) (c : Card) (frames erased : List ℕ) (given : List Given) (F : Follows x c frames erased given)
    (t : ℕ) (s : S) (A : F.After t s) (call : Call) (calls : List Call) where
  admitted-as : admission (x.card s) (x.received s) call ≡ admission c t call
  admitted-as = ap₂ (λ (c : Card) (n : ℕ). admission c n call) (F.card_is t s A) (F.received_is t s A)

  -- by what it hands back, whether it is taken or not
  taken_next : (part : ℕ → Call → ℕ) (r : Reply S) (b : Bool) → reply_of x s call ≡ r → taken c t call ≡ b
      → taken_parts part x s (call ∷ calls) ≡ cond b (part (c.k + c.p) call ∷ []) [] ++ taken_parts part x r.session calls
  unfolding taken_parts
  taken_next part r b e q =
      ap₂ (λ (c : Card) (n : ℕ). cond (taken c n call) (part (c.k + c.p) call ∷ []) [] ++ taken_parts part x (reply_of x s call).session calls) (F.card_is t s A) (F.received_is t s A)
      ∙ ap₂ (λ (b : Bool) (r : Reply S). cond b (part (c.k + c.p) call ∷ []) [] ++ taken_parts part x r.session calls) q e

  answers_next : (r : Reply S) (b : Bool) → reply_of x s call ≡ r → taken c t call ≡ b
      → taken_answers x s (call ∷ calls) ≡ cond b (r.answer ∷ []) [] ++ taken_answers x r.session calls
  unfolding taken_answers
  answers_next r b e q =
      ap₂ (λ (c : Card) (n : ℕ). cond (taken c n call) ((reply_of x s call).answer ∷ []) [] ++ taken_answers x (reply_of x s call).session calls) (F.card_is t s A) (F.received_is t s A)
      ∙ ap₂ (λ (b : Bool) (r : Reply S). cond b (r.answer ∷ []) [] ++ taken_answers x r.session calls) q e

  handed-next : (r : Reply S) → reply_of x s call ≡ r → frames_handed_out x s (call ∷ calls) ≡ handed_by r.answer ++ frames_handed_out x r.session calls
  unfolding handed_in answers
  handed-next r e = ap (λ (r : Reply S). handed_by r.answer ++ frames_handed_out x r.session calls) e

  after_next : (r : Reply S) → reply_of x s call ≡ r → session_after x s (call ∷ calls) ≡ session_after x r.session calls
  unfolding session_after
  after_next r e = ap (λ (r : Reply S). session_after x r.session calls) e

  -- a call that yields a frame is taken
  taken-reply : (f e : ℕ) → admission c t call ≡ yields f e → reply_of x s call ≡ x.take s f e
  taken-reply f e a = reply-taken x s call f e (admitted-as ∙ a)

  -- and any other is refused
  refused-reply : (n : ℕ) → admission c t call ≡ refuses n → reply_of x s call ≡ refused_of s n
  refused-reply n a = reply-refused x s call n (admitted-as ∙ a)

-- ---- any list of calls
module _ {S : Type 0} (x : Circuit S) (c : Card) (G : Guarantees c) (frames erased : List ℕ) (given : List Given)
    (whole : length given ≡ length frames) (F : Follows x c frames erased given) where
  -- what calls from time t on come to
  pub record Followed (t : ℕ) (s : S) (calls : List Call) : Type 0 where
    pub answers_are : taken_answers x s calls ≡ drop t given
    pub handed-are : frames_handed_out x s calls ≡ handed_in (taken_answers x s calls)
    pub last : F.After (length frames) (session_after x s calls)

  module _ (t : ℕ) (s : S) (A : F.After t s) (call : Call) (calls : List Call) where
    -- a call that is taken, and what the calls after it come to
    after-taken : (reply : Reply S) → t < length frames → taken c t call ≡ true → reply_of x s call ≡ reply → reply.answer ≡ get_or given t waiting
        → Followed (suc t) reply.session calls → Followed t s (call ∷ calls)
    unfolding handed_in
    after-taken reply l q e g r =
        let gs : taken_answers x s (call ∷ calls) ≡ reply.answer ∷ taken_answers x reply.session calls = answers_next x c frames erased given F t s A call calls reply true e q in
        record {
          answers_are = gs ∙ ap₂ (λ (g : Given) (l : List Given). g ∷ l) g r.answers_are ∙ sym (drop-cons given t waiting (omega arith));
          handed-are = handed-next x c frames erased given F t s A call calls reply e ∙ ap (λ (l : List ℕ). handed_by reply.answer ++ l) r.handed-are ∙ sym (ap handed_in gs);
          last = subst (F.After (length frames)) (sym (after_next x c frames erased given F t s A call calls reply e)) r.last;
        }

    -- a call that is refused
    after-refused : (n : ℕ) → taken c t call ≡ false → reply_of x s call ≡ refused_of s n → Followed t s calls → Followed t s (call ∷ calls)
    unfolding handed_by refused_of
    after-refused n q reply r =
        let gs : taken_answers x s (call ∷ calls) ≡ taken_answers x s calls = answers_next x c frames erased given F t s A call calls (refused_of s n) false reply q in
        record {
          answers_are = gs ∙ r.answers_are;
          handed-are = handed-next x c frames erased given F t s A call calls (refused_of s n) reply ∙ r.handed-are ∙ sym (ap handed_in gs);
          last = subst (F.After (length frames)) (sym (after_next x c frames erased given F t s A call calls (refused_of s n) reply)) r.last;
        }

  pub follow : (calls : List Call) (t : ℕ) (s : S) → t ≤ length frames → F.After t s → drop t frames ≡ taken_frames x s calls → drop t erased ≡ taken_erased x s calls
      → Followed t s calls
  unfolding taken_answers taken_parts answers session_after handed_in refused_of
  follow [] t s l A ef ee =
      let n : t ≡ length frames = omega (arith, length-drop t frames, ap length ef) in
      record { answers_are = sym (drop_of_length-le given {i = t} (omega arith)); handed-are = refl; last = subst (λ (t : ℕ). F.After t s) n A }
  follow (call ∷ calls) t s l A ef ee =
      ⊎_elim
      (λ (w : (taken c t call ≡ true) × (admission c t call ≡ yields (frame_in (c.k + c.p) call) (erased_in (c.k + c.p) call))).
      let f = frame_in (c.k + c.p) call in
      let e = erased_in (c.k + c.p) call in
      let n = (x.take s f e).session in
      let reply = taken-reply x c frames erased given F t s A call calls f e w.1 in
      let f₀ : drop t frames ≡ f ∷ taken_frames x n calls = ef ∙ taken_next x c frames erased given F t s A call calls frame_in (x.take s f e) true reply w.0 in
      let e₀ : drop t erased ≡ e ∷ taken_erased x n calls = ee ∙ taken_next x c frames erased given F t s A call calls erased_in (x.take s f e) true reply w.0 in
      let l₀ = dropped-within frames t f _ f₀ in
      let k = F.step t f e s A l₀ (dropped-head frames t f _ f₀) (dropped-head erased t e _ e₀) in
      after-taken t s A call calls (x.take s f e) l₀ w.0 reply k.0 (follow calls (suc t) n l₀ k.1 (rest-is frames t f _ f₀) (rest-is erased t e _ e₀)))
      (λ (w : (taken c t call ≡ false) × (n : ℕ) × (admission c t call ≡ refuses n)).
      let r = refused-reply x c frames erased given F t s A call calls w.1 w.2 in
      let rest : (part : ℕ → Call → ℕ) → taken_parts part x s (call ∷ calls) ≡ taken_parts part x s calls =
      λ part. taken_next x c frames erased given F t s A call calls part (refused_of s w.1) false r w.0 in
      after-refused t s A call calls w.1 w.0 r (follow calls t s l A (ef ∙ rest frame_in) (ee ∙ rest erased_in)))
      (outcome c G t call)

-- ---- two kinds of session
module _ {S R : Type 0} (x : Circuit S) (y : Circuit R) (c : Card) (G : Guarantees c) (frames erased : List ℕ) (given other : List Given) (same : given ≡ other)
    (F : Follows x c frames erased given) (H : Follows y c frames erased other) where
  pub agree : (calls : List Call) (t : ℕ) (s : S) (r : R) → F.After t s → H.After t r → drop t frames ≡ taken_frames x s calls → drop t erased ≡ taken_erased x s calls
      → answers x s calls ≡ answers y r calls
  unfolding answers refused_of
  agree [] t s r A B ef ee = refl
  agree (call ∷ calls) t s r A B ef ee =
      ⊎_elim
      (λ (w : (taken c t call ≡ true) × (admission c t call ≡ yields (frame_in (c.k + c.p) call) (erased_in (c.k + c.p) call))).
      let f = frame_in (c.k + c.p) call in
      let e = erased_in (c.k + c.p) call in
      let a = taken-reply x c frames erased given F t s A call calls f e w.1 in
      let b = taken-reply y c frames erased other H t r B call calls f e w.1 in
      let f₀ : drop t frames ≡ f ∷ taken_frames x (x.take s f e).session calls = ef ∙ taken_next x c frames erased given F t s A call calls frame_in (x.take s f e) true a w.0 in
      let e₀ : drop t erased ≡ e ∷ taken_erased x (x.take s f e).session calls = ee ∙ taken_next x c frames erased given F t s A call calls erased_in (x.take s f e) true a w.0 in
      let l₀ = dropped-within frames t f _ f₀ in
      let k = F.step t f e s A l₀ (dropped-head frames t f _ f₀) (dropped-head erased t e _ e₀) in
      let q = H.step t f e r B l₀ (dropped-head frames t f _ f₀) (dropped-head erased t e _ e₀) in
      ap (λ (z : Reply S). z.answer ∷ answers x z.session calls) a
      ∙ ap₂ (λ (g : Given) (l : List Given). g ∷ l) (k.0 ∙ ap (λ (l : List Given). get_or l t waiting) same ∙ sym q.0) (agree calls (suc t) (x.take s f e).session (y.take r f e).session k.1 q.1 (rest-is frames t f _ f₀) (rest-is erased t e _ e₀))
      ∙ sym (ap (λ (z : Reply R). z.answer ∷ answers y z.session calls) b))
      (λ (w : (taken c t call ≡ false) × (n : ℕ) × (admission c t call ≡ refuses n)).
      let a = refused-reply x c frames erased given F t s A call calls w.1 w.2 in
      let b = refused-reply y c frames erased other H t r B call calls w.1 w.2 in
      let rest : (part : ℕ → Call → ℕ) → taken_parts part x s (call ∷ calls) ≡ taken_parts part x s calls =
      λ part. taken_next x c frames erased given F t s A call calls part (refused_of s w.1) false a w.0 in
      ap (λ (z : Reply S). z.answer ∷ answers x z.session calls) a
      ∙ ap (λ (l : List Given). refused w.1 ∷ l)
      (agree calls t s r A B (ef ∙ rest frame_in) (ee ∙ rest erased_in))
      ∙ sym (ap (λ (z : Reply R). z.answer ∷ answers y z.session calls) b))
      (outcome c G t call)
