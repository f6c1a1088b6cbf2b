-- The ways out of a receiving call, and that a call is taken by its conditions exactly if it is not refused. The session is of any kind.
use Prim.Native.Nat.{ℕ, ◌+◌, ◌^◌, ◌≤◌, ◌<◌, min}
use mathlib.Core.Path.{◌≡◌, refl, sym, ap, ◌∙◌}
use mathlib.Core.Bool.{Bool, true, false, cond, ◌&&◌}
use mathlib.Core.Logic.{◌⊎◌, inl, inr}
use mathlib.Core.List.{List}
use native.Mathlib.Omega.{arith}
use lib.Dec.{ltb, eqb}
use Rattle.std.specs.Prelude.{Ok, Err, None}
use borrow.Author.Tests.{eq-eqb, ne_eqb, lt-ltb, le-ltb, eqb-true, eqb-false, ltb-true, ltb-false}
use Rattle.code.specs.Code.{most_frames}
use Rattle.code.specs.Guarantees.{Guarantees}
use Rattle.code.specs.declared.Card.{Card}
use Rattle.card.specs.Refusals.{number_of}
use Rattle.card.specs.declared.Refusal.{Refusal}
use Rattle.receiving.specs.Answers.{Reply, waiting, published}
use Rattle.receiving.specs.Readings.{Yield, yields, refuses, faults, frame_read, erased_read, read_byte_of, read_frame_of}
use Rattle.receiving.specs.Receive.{sizes_in, Circuit, in_turn, admit_of, refused_of, settled_of, receive_of, receive_byte_of, receive_readings_of, Holding, with_frame, handing_of, taken_of, circuit_of}
use Rattle.receiving.specs.Calls.{Call, byte, readings, reply_of, number_in, frame_in, erased_in, readable, taken}
use Rattle.receiving.specs.declared.Reading.{Reading}
use Rattle.receiving.specs.declared.Session.{Session}
use Rattle.receiving.proofs.Yields.{byte-within, byte-beyond, read_whole, read-faulty}

-- ---- each way out
module _ (own received number : ℕ) (y : Yield) where
  pub other_number : (number ≡ own → ⊥) → admit_of own received number y ≡ refuses 14
  unfolding admit_of
  other_number h = ap (λ (b : Bool). cond b (cond (ltb received most_frames) y (refuses 15)) (refuses 14)) (ne_eqb number own h)

  pub no_room : number ≡ own → most_frames ≤ received → admit_of own received number y ≡ refuses 15
  unfolding admit_of
  no_room e h = simp (eq-eqb number own e, le-ltb received most_frames h)

  pub admitted : number ≡ own → received < most_frames → admit_of own received number y ≡ y
  unfolding admit_of
  admitted e h = simp (eq-eqb number own e, lt-ltb received most_frames h)

-- a frame is taken only where there is room for it
pub room_for : (own received number : ℕ) (y : Yield) {f e : ℕ} → admit_of own received number y ≡ yields f e → received < most_frames
room_for own received number y {f} {e} taken = numbered (eqb number own) refl
  where
    not-refused : {n : ℕ} → admit_of own received number y ≡ refuses n → ⊥
    not-refused q = let z : ◌≡◌ {A = ℕ} 0 1 = cc in omega arith

    counted : number ≡ own → (b : Bool) → ltb received most_frames ≡ b → received < most_frames
    counted w true q = ltb-true _ _ q
    counted w false q = absurd (not-refused (no_room own received number y w (ltb-false _ _ q)))

    numbered : (a : Bool) → eqb number own ≡ a → received < most_frames
    numbered true q = counted (eqb-true _ _ q) (ltb received most_frames) refl
    numbered false q = absurd (not-refused (other_number own received number y (eqb-false _ _ q)))

-- ---- waiting, or handing out
module _ {S : Type 0} (received m : ℕ) (s : S) (hand : S → Reply S) where
  pub first-wait : received < m → in_turn received m s hand ≡ record { answer = waiting; session = s }
  unfolding in_turn
  first-wait h = rw (lt-ltb received m h)

  pub later-hand : m ≤ received → in_turn received m s hand ≡ hand s
  unfolding in_turn
  later-hand h = rw (le-ltb received m h)

-- ---- taken or refused

-- a frame that is in order yields f, of which e are erased, and any other yields its refusal
abbrev pub Yielded : Bool → ℕ → ℕ → Yield → Type 0
Yielded ok f e y = ((ok ≡ true) × (y ≡ yields f e)) ⊎ ((ok ≡ false) × (n : ℕ) × (y ≡ refuses n))

yielded-byte : (f n : ℕ) → Yielded (ltb f (2 ^ n)) f 0 (read_byte_of f n)
yielded-byte f n = go (ltb f (2 ^ n)) refl
  where
    go : (b : Bool) → ltb f (2 ^ n) ≡ b → Yielded b f 0 (read_byte_of f n)
    go true e = inl (refl, byte-within f n (ltb-true f (2 ^ n) e))
    go false e = inr (refl, 11, byte-beyond f n (ltb-false f (2 ^ n) e))

yielded-readings : (levels : List Reading) (n : ℕ) → Yielded (eqb (faults levels n) 0) (frame_read levels n) (erased_read levels n) (read_frame_of levels n)
yielded-readings levels n = go (eqb (faults levels n) 0) refl
  where
    positive : (x : ℕ) → (x ≡ 0 → ⊥) → 0 < x
    positive x ne = omega arith

    go : (b : Bool) → eqb (faults levels n) 0 ≡ b → Yielded b (frame_read levels n) (erased_read levels n) (read_frame_of levels n)
    go true e = inl (refl, read_whole levels n (eqb-true (faults levels n) 0 e))
    go false e = inr (refl, 12, read-faulty levels n (positive (faults levels n) (eqb-false (faults levels n) 0 e)))

by-conditions : (own received number f e : ℕ) (ok : Bool) (y : Yield) → Yielded ok f e y
    → Yielded (eqb number own && ltb received most_frames && ok) f e (admit_of own received number y)
by-conditions own received number f e ok y yielded = numbered (eqb number own) refl
  where
    framed : number ≡ own → received < most_frames → Yielded ok f e y → Yielded ok f e (admit_of own received number y)
    framed n l (inl w) = inl (w.0, admitted own received number y n l ∙ w.1)
    framed n l (inr w) = inr (w.0, w.1, admitted own received number y n l ∙ w.2)

    counted : number ≡ own → (b : Bool) → ltb received most_frames ≡ b → Yielded (true && b && ok) f e (admit_of own received number y)
    counted n true q = framed n (ltb-true _ _ q) yielded
    counted n false q = inr (refl, 15, no_room own received number y n (ltb-false _ _ q))

    numbered : (a : Bool) → eqb number own ≡ a → Yielded (a && ltb received most_frames && ok) f e (admit_of own received number y)
    numbered true q = counted (eqb-true _ _ q) (ltb received most_frames) refl
    numbered false q = inr (refl, 14, other_number own received number y (eqb-false _ _ q))

-- what a call yields, by its card and the frames received
unfoldable pub admission : Card → ℕ → Call → Yield
admission c received (byte number f) = admit_of c.number received number (read_byte_of f (sizes_in c).n)
admission c received (readings number levels) = admit_of c.number received number (read_frame_of levels (sizes_in c).n)

-- it is taken by its conditions exactly if it is not refused
pub outcome : (c : Card) → Guarantees c → (received : ℕ) (call : Call)
    → Yielded (taken c received call) (frame_in (c.k + c.p) call) (erased_in (c.k + c.p) call) (admission c received call)
unfolding taken number_in frame_in erased_in readable admission
outcome c G received (byte number f) =
    let n : (sizes_in c).n ≡ c.k + c.p = omega (arith, G.k_most, G.n_most) in
    rw n (by-conditions c.number received number f 0 _ _ (yielded-byte f (c.k + c.p)))
outcome c G received (readings number levels) =
    let n : (sizes_in c).n ≡ c.k + c.p = omega (arith, G.k_most, G.n_most) in
    rw n (by-conditions c.number received number _ _ _ _ (yielded-readings levels (c.k + c.p)))

module _ {S : Type 0} (x : Circuit S) (s : S) (call : Call) where
  reply-is : reply_of x s call ≡ settled_of x s (admission (x.card s) (x.received s) call)
  reply-is = by_kind call
    where
      by_kind : (call : Call) → reply_of x s call ≡ settled_of x s (admission (x.card s) (x.received s) call)
      by_kind (byte number f) = unfold reply_of receive_byte_of receive_of admission in refl
      by_kind (readings number levels) = unfold reply_of receive_readings_of receive_of admission in refl

  -- a call that yields a frame is taken, and any other is refused
  pub reply-taken : (f e : ℕ) → admission (x.card s) (x.received s) call ≡ yields f e → reply_of x s call ≡ x.take s f e
  unfolding settled_of
  reply-taken f e q = reply-is ∙ ap (settled_of x s) q

  pub reply-refused : (n : ℕ) → admission (x.card s) (x.received s) call ≡ refuses n → reply_of x s call ≡ refused_of s n
  unfolding settled_of
  reply-refused n e = reply-is ∙ ap (settled_of x s) e

-- ---- what the parts of a call come to together, stated over their results, so that the functions' proofs stay small
module _ {S : Type 0} (x : Circuit S) (s : S) (number : ℕ) (y : Yield) where
  module _ {r : Reply S} (e : r ≡ receive_of x s number y) where
    pub byte-is : (f : ℕ) → y ≡ read_byte_of f (sizes_in (x.card s)).n → r ≡ receive_byte_of x s number f
    unfolding receive_byte_of
    byte-is f q = e ∙ ap (receive_of x s number) q

    pub readings-are : (levels : List Reading) → y ≡ read_frame_of levels (min (sizes_in (x.card s)).n 8) → r ≡ receive_readings_of x s number levels
    unfolding receive_readings_of
    readings-are levels q =
        let most : min (sizes_in (x.card s)).n 8 ≡ (sizes_in (x.card s)).n = omega arith in
        e ∙ ap (receive_of x s number) (q ∙ ap (read_frame_of levels) most)

-- ---- the parts of a call on the program's sessions

module _ {H : Type 0} (k : Holding H) (s : Session H) (number : ℕ) (y : Yield) where
  pub call-refused : (r : Refusal) → refuses (number_of r) ≡ admit_of s.card.number s.received number y → published (Err r) s ≡ receive_of (circuit_of k) s number y
  unfolding receive_of settled_of refused_of
  call-refused r e = ap (settled_of (circuit_of k) s) e

  module _ (f e : ℕ) (admitted : yields f e ≡ admit_of s.card.number s.received number y) where
    pub call-taken : taken_of k s f e ≡ receive_of (circuit_of k) s number y
    unfolding receive_of settled_of
    call-taken = ap (settled_of (circuit_of k) s) admitted

    pub call-waits : s.received < s.card.m → published (Ok None) (with_frame k s f e) ≡ receive_of (circuit_of k) s number y
    unfolding taken_of
    call-waits l = sym (first-wait s.received s.card.m (with_frame k s f e) (handing_of k) l) ∙ call-taken

    pub call-hands : s.card.m ≤ s.received → handing_of k (with_frame k s f e) ≡ receive_of (circuit_of k) s number y
    unfolding taken_of
    call-hands l = sym (later-hand s.received s.card.m (with_frame k s f e) (handing_of k) l) ∙ call-taken
