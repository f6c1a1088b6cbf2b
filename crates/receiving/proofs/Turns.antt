-- A session of the program, which takes a frame in, and then waits or hands out in its turn: it follows the rule, if what its circuit holds does.
use Prim.Native.Nat.{ℕ, suc, ◌-◌, ◌≤◌, ◌<◌}
use mathlib.Core.Path.{◌≡◌, refl, sym, ap, ◌∙◌, subst}
use mathlib.Core.Logic.{⊎_elim}
use mathlib.Core.List.{List}
use native.Mathlib.Numerals.{add-one}
use lib.ListN.{length, get_or}
use Rattle.bits.proofs.Cases.{le-or-lt}
use Rattle.code.specs.declared.Card.{Card}
use Rattle.receiving.specs.Answers.{waiting, frame, Reply}
use Rattle.receiving.specs.Receive.{place_of, open_of, Holding, with_frame, handing_of, taken_of, circuit_of}
use Rattle.receiving.specs.Calls.{answers_by}
use Rattle.receiving.specs.declared.Session.{Session}
use Rattle.receiving.proofs.Outcomes.{first-wait, later-hand}
use Rattle.receiving.proofs.Answers.{first-waiting, then-frames}
use Rattle.receiving.proofs.Follow.{Follows}

-- what a circuit holds before the frame of time t, and with it, and that it keeps to this and hands out by the rule
pub record InTurn {H : Type 0} (k : Holding H) (rule : Card → List ℕ → List ℕ → List ℕ) (c : Card) (frames erased : List ℕ) : Type 1 where
  pub Before : ℕ → H → Type 0
  pub With : ℕ → H → Type 0
  pub start : Before 0 k.nothing
  pub comes-in : (t f e : ℕ) (h : H) → Before t h → f ≡ get_or frames t 0 → e ≡ get_or erased t 0 → With t (k.put_in c h (place_of t c.m) f e)
  pub waits : (t : ℕ) (h : H) → t < c.m → With t h → Before (suc t) h
  pub hands : (t : ℕ) (h : H) → c.m ≤ t → t < length frames → With t h
      → (k.handed_out c h ≡ get_or (rule c frames erased) (t - c.m) 0) × Before (suc t) (k.moved_on c h)

-- the session with card c that holds this after t frames
abbrev pub session : {H : Type 0} → Card → H → ℕ → Session H
session c h t = record { card = c; held = h; received = t }

module _ {H : Type 0} (k : Holding H) (rule : Card → List ℕ → List ℕ → List ℕ) (c : Card) (frames erased : List ℕ)
    (handed : length (rule c frames erased) ≡ length frames - c.m) (T : InTurn k rule c frames erased) where
  -- a session before the frame of time t
  pub record Before (t : ℕ) (s : Session H) : Type 0 where
    pub held : H
    pub session_is : s ≡ session c held t
    pub held-is : T.Before t held

  -- what comes of a frame that is taken
  abbrev Steps : ℕ → Reply (Session H) → Type 0
  Steps t r = (r.answer ≡ get_or (answers_by rule c frames erased) t waiting) × Before (suc t) r.session

  pub step-at : (t f e : ℕ) (h : H) → T.Before t h → t < length frames → f ≡ get_or frames t 0 → e ≡ get_or erased t 0 → Steps t (taken_of k (session c h t) f e)
  unfolding taken_of with_frame handing_of
  step-at t f e h B l ef ee =
      let n = with_frame k (session c h t) f e in
      let W = T.comes-in t f e h B ef ee in
      ⊎_elim
      (λ (lm : c.m ≤ t).
      let w = T.hands t n.held lm l W in
      subst (Steps t) (sym (later-hand t c.m n (handing_of k) lm))
      (ap frame w.0 ∙ sym (then-frames rule c frames erased handed t l lm), record { held = k.moved_on c n.held; session_is = ap (session c (k.moved_on c n.held)) (add-one t); held-is = w.1 }))
      (λ (lm : t < c.m).
      subst (Steps t) (sym (first-wait t c.m n (handing_of k) lm))
      (sym (first-waiting rule c frames erased handed t l lm), record { held = n.held; session_is = ap (session c n.held) (add-one t); held-is = T.waits t n.held lm W }))
      (le-or-lt c.m t)

  unfoldable pub in-turn : Follows (circuit_of k) c frames erased (answers_by rule c frames erased)
  in-turn =
      record {
        After = Before;
        card_is = λ t s B. ap (λ (s : Session H). s.card) B.session_is;
        received_is = λ t s B. ap (λ (s : Session H). s.received) B.session_is;
        step = λ t f e s B l ef ee.
            subst (λ (s : Session H). Steps t (taken_of k s f e)) (sym B.session_is) (step-at t f e B.held B.held-is l ef ee);
      }

  pub starts : in-turn.After 0 (open_of (circuit_of k) c)
  unfolding in-turn open_of
  starts = record { held = k.nothing; session_is = refl; held-is = T.start }
