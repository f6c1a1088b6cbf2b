-- A frame taken in: registers that held the stream before it hold the stream with it.
use Prim.Native.Nat.{ℕ, suc, ◌+◌, ◌-◌, ◌*◌, ◌/◌, ◌%◌, ◌^◌, ◌≤◌, ◌<◌}
use mathlib.Core.Path.{◌≡◌, sym, ap, ap₂, ◌∙◌}
use mathlib.Core.Bool.{cond}
use mathlib.Core.Logic.{⊎_elim}
use mathlib.Core.List.{List, []}
use native.Mathlib.Nat.{mod-lt, add_comm, eq-or-lt_of_le}
use native.Mathlib.Omega.{arith}
use lib.ListN.{get_or}
use lib.Bits.{bit_xor}
use lib.Dec.{leb}
use lib.Pow.{pow_pos}
use borrow.Author.Tests.{lt-ltb, le-ltb, le-leb, lt-leb}
use Rattle.bits.specs.Sums.{sum_below}
use Rattle.bits.specs.Digits.{bit, shift_up}
use Rattle.bits.proofs.Lists.{part_at}
use Rattle.bits.proofs.Back.{back_in, back-out}
use Rattle.bits.proofs.Cases.{le-or-lt}
use Rattle.bits.proofs.Digits.{add_none, none-add, bit-zero, bit-suc, bit-shift, bit-xor, place_same, place_other}
use Rattle.bits.proofs.Words.{shift-digit}
use Rattle.code.specs.Code.{generator, digit, parity_at}
use Rattle.code.specs.Guarantees.{Guarantees}
use Rattle.code.specs.declared.Card.{Card}
use Rattle.code.proofs.GeneratorSums.{sum-bit}
use Rattle.majority.specs.Rule.{syndrome, cleared}
use Rattle.majority.specs.Plain.{decided}
use Rattle.majority.proofs.Plain.{decided-length}
use Rattle.majority.proofs.Feedback.{syndrome-lt, cleared-lt, cleared-new}
use Rattle.burst.specs.Sums.{HasSums}
use Rattle.burst.specs.Registers.{parity_with, coming_next, syndromes_next, TakenIn}
use Rattle.burst.specs.declared.registers.Registers.{Registers}
use Rattle.burst.specs.Held.{coming_at, syndrome_held, Before, With}
use Rattle.burst.proofs.Coming.{coming_with, coming-now, register-with, register-next}

-- the digits of the table of generator sums
pub sums-bit : (c : Card) → Guarantees c → (sums : List (List ℕ)) → HasSums c.generators c.k c.p (2 ^ c.k) sums → (x j a : ℕ) → x < 2 ^ c.k → j < c.p
    → bit (get_or (get_or sums j []) x 0) a ≡ sum_below c.k (λ i. generator c i j a * bit x i) % 2
sums-bit c G sums S x j a hx hj = ap (λ y. bit y a) (S j hj x hx) ∙ sum-bit c G x j a hj

pub held-lt : (c : Card) (frames : List ℕ) (t j a : ℕ) → syndrome_held c frames t j a < 2
unfolding syndrome_held
held-lt c frames t j a =
    let f : ℕ → ℕ = λ v. cleared c frames (decided c frames (t - c.m)) v j in
    ⊎_elim (λ (l : c.m - a ≤ t). rw (back_in f t (c.m - a) l) (cleared-lt c frames (decided c frames (t - c.m)) (t - (c.m - a)) j))
    (λ (l : t < c.m - a). rw (back-out f t (c.m - a) l) (omega arith)) (le-or-lt (c.m - a) t)

-- at place m it is the syndrome of time t, from which nothing is taken out yet
held-now : (c : Card) (frames : List ℕ) (t j a : ℕ) → a ≡ c.m → syndrome_held c frames t j a ≡ syndrome c frames t j
unfolding syndrome_held
held-now c frames t j a e =
    let errors = decided c frames (t - c.m) in
    let z : t - (c.m - a) ≡ t = omega arith in
    back_in (λ v. cleared c frames errors v j) t (c.m - a) (omega arith)
    ∙ ap (λ v. cleared c frames errors v j) z
    ∙ cleared-new c frames errors t j (omega (arith, decided-length c frames (t - c.m)))

module _ (c : Card) (G : Guarantees c) (sums : List (List ℕ)) (S : HasSums c.generators c.k c.p (2 ^ c.k) sums)
    (frames : List ℕ) (t f : ℕ) (hf : f ≡ get_or frames t 0) (r : Registers) (B : Before c frames t r) where
  -- the parity register j with the frame
  parity-bit : (j a : ℕ) → j < c.p → bit (parity_with sums r.coming c.k f j) a ≡ coming_with c frames t j a
  unfolding parity_with
  parity-bit j a hj =
      register-with c G frames t f j hj (get_or r.coming j 0) _ hf (S j hj (f % 2 ^ c.k) (mod-lt f (pow_pos c.k))) (λ b. B.coming_held j b hj) a

  coming-bit : (j a : ℕ) → j < c.p → bit (coming_next sums r.coming c.k f j) a ≡ coming_at c frames (suc t) j a
  unfolding coming_next parity_with
  coming-bit j a hj =
      register-next c G frames t f j hj (get_or r.coming j 0) _ hf (S j hj (f % 2 ^ c.k) (mod-lt f (pow_pos c.k))) (λ b. B.coming_held j b hj) a

  -- the syndrome of the frame
  syndrome-is : (j : ℕ) → j < c.p
      → bit_xor (parity_with sums r.coming c.k f j) (f / 2 ^ c.k / 2 ^ j) % 2 ≡ syndrome c frames t j
  unfolding syndrome digit
  syndrome-is j hj =
      let z : c.k + (j + 0) ≡ c.k + j = omega arith in
      sym (bit-zero _)
      ∙ bit-xor _ (f / 2 ^ c.k / 2 ^ j) 0
      ∙ ap₂ (λ x y. (x + y) % 2) (parity-bit j 0 hj ∙ coming-now c frames t j)
      (bit-shift (f / 2 ^ c.k) j 0 ∙ bit-shift f c.k (j + 0) ∙ ap₂ bit hf z)
      ∙ ap (λ x. x % 2) (add_comm (parity_at c frames j t) _)

  held-bit : (j a : ℕ) → j < c.p
      → bit (syndromes_next sums r.coming r.syndromes c.k c.m f j) a ≡ cond (leb a c.m) (syndrome_held c frames t j a) 0
  unfolding syndromes_next
  held-bit j a hj =
      let y = get_or r.syndromes j 0 in
      let d = syndrome c frames t j in
      let hd = syndrome-lt c frames t j in
      ap (λ x. bit (bit_xor (y / 2) (shift_up x c.m)) a) (syndrome-is j hj)
      ∙ ap (λ x. bit (bit_xor (y / 2) x) a) (shift-digit d c.m hd (omega (arith, G.m_most)))
      ∙ bit-xor (y / 2) (d * 2 ^ c.m) a
      ∙ ap (λ x. (x + bit (d * 2 ^ c.m) a) % 2) (sym (bit-suc y a) ∙ B.held_at j a hj)
      ∙ ⊎_elim
      (λ (l : a ≤ c.m).
      ⊎_elim
      (λ (e : a ≡ c.m).
      none-add (ap (λ b. cond b (syndrome_held c frames t j a) 0) (le-ltb a c.m (omega arith))) (ap (bit (d * 2 ^ c.m)) e ∙ place_same d c.m hd) hd
      ∙ sym (held-now c frames t j a e)
      ∙ sym (ap (λ b. cond b (syndrome_held c frames t j a) 0) (le-leb a c.m l)))
      (λ (q : a < c.m).
      add_none (ap (λ b. cond b (syndrome_held c frames t j a) 0) (lt-ltb a c.m q)) (place_other d c.m a hd (λ e. absurd (omega arith))) (held-lt c frames t j a)
      ∙ sym (ap (λ b. cond b (syndrome_held c frames t j a) 0) (le-leb a c.m l)))
      (eq-or-lt_of_le l))
      (λ (l : c.m < a).
      add_none (ap (λ b. cond b (syndrome_held c frames t j a) 0) (le-ltb a c.m (omega arith))) (place_other d c.m a hd (λ e. absurd (omega arith))) (omega arith)
      ∙ sym (ap (λ b. cond b (syndrome_held c frames t j a) 0) (lt-leb a c.m l)))
      (le-or-lt a c.m)

  -- the registers after the frame
  pub taken_in : {after : Registers} {held : ℕ} → TakenIn sums c.k c.p c.m f r after held → With c frames t after
  taken_in T =
      record {
        coming_held = λ j a hj. ap (λ l. bit (get_or l j 0) a) T.coming_is ∙ ap (λ x. bit x a) (part_at _ r.coming c.p j hj) ∙ coming-bit j a hj;
        held_at = λ j a hj. ap (λ l. bit (get_or l j 0) a) T.syndromes_is ∙ ap (λ x. bit x a) (part_at _ r.syndromes c.p j hj) ∙ held-bit j a hj;
      }
