-- The first frames: registers of zeros are ready for the frame of time 0, and after each of the first m frames they are ready for the next.
use Prim.Native.Nat.{ℕ, suc, ◌+◌, ◌-◌, ◌^◌, ◌≤◌, ◌<◌}
use mathlib.Core.Path.{◌≡◌, sym, ap, ap₂, ◌∙◌}
use mathlib.Core.Bool.{cond}
use mathlib.Core.Logic.{⊎_elim}
use mathlib.Core.List.{List}
use native.Mathlib.Omega.{arith}
use native.Mathlib.Numerals.{add-one}
use lib.ListN.{get_or, replicate}
use borrow.Author.Tests.{lt-ltb, le-ltb, le-leb, lt-leb}
use Rattle.bits.specs.Sums.{back}
use Rattle.bits.specs.Digits.{bit}
use Rattle.bits.proofs.Lists.{zeros-at, part-rest}
use Rattle.bits.proofs.Back.{back-out, back-suc}
use Rattle.bits.proofs.Cases.{le-or-lt}
use Rattle.bits.proofs.Digits.{bit-of-zero}
use Rattle.code.specs.declared.Card.{Card}
use Rattle.majority.specs.Rule.{cleared}
use Rattle.majority.specs.Plain.{decided}
use Rattle.code.specs.Guarantees.{Guarantees}
use Rattle.burst.specs.Sums.{HasSums}
use Rattle.burst.specs.Registers.{registers, syndromes_next, TakenIn, NoneFrom}
use Rattle.burst.specs.declared.registers.Registers.{Registers}
use Rattle.burst.specs.Held.{syndrome_held, Before, With}
use Rattle.burst.proofs.Coming.{coming-start}
use Rattle.burst.proofs.Following.{taken_in}

-- no syndrome is held of times before 0
early : (c : Card) (frames : List ℕ) (j a : ℕ) → a < c.m → syndrome_held c frames 0 j a ≡ 0
unfolding syndrome_held
early c frames j a l = back-out (λ v. cleared c frames (decided c frames (0 - c.m)) v j) 0 (c.m - a) (omega arith)

-- while no error is decided, the next frame only finds them a place further
later : (c : Card) (frames : List ℕ) (t j a : ℕ) → t < c.m → a < c.m → syndrome_held c frames t j (suc a) ≡ syndrome_held c frames (suc t) j a
unfolding syndrome_held
later c frames t j a h l =
    let e : t - c.m ≡ suc t - c.m = omega arith in
    let q : suc (c.m - suc a) ≡ c.m - a = omega arith in
    sym (back-suc (λ v. cleared c frames (decided c frames (t - c.m)) v j) t (c.m - suc a))
    ∙ ap₂ (λ n b. back (λ v. cleared c frames (decided c frames n) v j) (suc t) b) e q

pub start : (c : Card) (frames : List ℕ) → Before c frames 0 (registers (replicate 8 0) (replicate 8 0))
start c frames =
    record {
      coming_held = λ j a hj. none j a ∙ sym (coming-start c frames j a);
      held_at = λ j a hj.
          none j (suc a)
          ∙ ⊎_elim (λ (l : c.m ≤ a). sym (ap (λ b. cond b (syndrome_held c frames 0 j a) 0) (le-ltb a c.m l)))
          (λ (l : a < c.m). sym (ap (λ b. cond b (syndrome_held c frames 0 j a) 0) (lt-ltb a c.m l) ∙ early c frames j a l)) (le-or-lt c.m a);
    }
  where
    none : (j a : ℕ) → bit (get_or (replicate 8 0) j 0) a ≡ 0
    none j a = ap (λ x. bit x a) (zeros-at 8 j) ∙ bit-of-zero a

pub waiting : (c : Card) (frames : List ℕ) (t : ℕ) {r : Registers} → t < c.m → With c frames t r → Before c frames (suc t) r
waiting c frames t h W =
    record {
      coming_held = λ j a hj. W.coming_held j a hj;
      held_at = λ j a hj.
          W.held_at j (suc a) hj
          ∙ ⊎_elim
          (λ (l : c.m ≤ a).
          ap (λ b. cond b (syndrome_held c frames t j (suc a)) 0) (lt-leb (suc a) c.m (omega arith))
          ∙ sym (ap (λ b. cond b (syndrome_held c frames (suc t) j a) 0) (le-ltb a c.m l)))
          (λ (l : a < c.m).
          ap (λ b. cond b (syndrome_held c frames t j (suc a)) 0) (le-leb (suc a) c.m (omega arith))
          ∙ later c frames t j a h l
          ∙ sym (ap (λ b. cond b (syndrome_held c frames (suc t) j a) 0) (lt-ltb a c.m l)))
          (le-or-lt c.m a);
    }

-- ---- frames taken in one after the other
pub none-beyond : {sums : List (List ℕ)} {k p m f held : ℕ} {before after : Registers} → TakenIn sums k p m f before after held
    → NoneFrom p before.syndromes → NoneFrom p after.syndromes
none-beyond {sums} {k} {p} {m} {f} {before = before} T z j l =
    ap (λ y. get_or y j 0) T.syndromes_is ∙ part-rest (syndromes_next sums before.coming before.syndromes k m f) before.syndromes p j l ∙ z j l

-- one frame more for which nothing is handed out
pub wait-more : (c : Card) → Guarantees c → (sums : List (List ℕ)) → HasSums c.generators c.k c.p (2 ^ c.k) sums → (frames : List ℕ) (t : ℕ)
    {before after : Registers} {f held : ℕ} → t < c.m → f ≡ get_or frames t 0 → TakenIn sums c.k c.p c.m f before after held
    → Before c frames t before → Before c frames (t + 1) after
wait-more c G sums S frames t {before = before} {f = f} h hf T B = rw add-one (waiting c frames t h (taken_in c G sums S frames t f hf before B T))
