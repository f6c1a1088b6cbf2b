-- The parity to come: what one frame more adds to it, that it is the code's parity when its time has come, and how a register follows it.
use Prim.Native.Nat.{ℕ, suc, ◌+◌, ◌*◌, ◌/◌, ◌%◌, ◌^◌, ◌<◌}
use mathlib.Core.Path.{◌≡◌, sym, ap, ap₂, ◌∙◌}
use mathlib.Core.List.{List}
use native.Mathlib.Nat.{add-suc, suc-add, zero-add, add-zero, mod-add-mod, add-mod-mod}
use native.Mathlib.Omega.{arith}
use lib.ListN.{get_or}
use lib.Bits.{bit_xor}
use Rattle.bits.specs.Sums.{sum_below, back}
use Rattle.bits.specs.Digits.{bit}
use Rattle.bits.proofs.Sums.{sum_same, sum-cong, sum-add, sum-none, sum_first, sum-cut}
use Rattle.bits.proofs.Back.{back_in, back-out, back-suc}
use Rattle.bits.proofs.Digits.{bit-zero, bit-suc, bit-mod, bit-xor}
use Rattle.code.specs.Code.{generator, digit, parity_at}
use Rattle.code.specs.Guarantees.{Guarantees}
use Rattle.code.specs.Registers.{generator_sum}
use Rattle.code.specs.declared.Card.{Card}
use Rattle.code.proofs.Registers.{generator-beyond}
use Rattle.code.proofs.GeneratorSums.{sum-bit}
use Rattle.burst.specs.Held.{coming_at}

-- the part of parity digit j at t + a that the information digits up to time t give
unfoldable pub coming_with : Card → List ℕ → ℕ → ℕ → ℕ → ℕ
coming_with c frames t j a = sum_below c.k (λ i. sum_below (suc c.m) (λ b. generator c i j (a + b) * back (digit frames i) t b)) % 2

pub coming-start : (c : Card) (frames : List ℕ) (j a : ℕ) → coming_at c frames 0 j a ≡ 0
unfolding coming_at
coming-start c frames j a =
    ap (λ x. x % 2)
    (sum-none c.k _ (λ i li. sum-none (suc c.m) _ (λ b lb. ap (λ x. generator c i j (suc a + b) * x) (back-out (digit frames i) 0 (suc b) (omega arith)) ∙ omega arith)))

-- the frame of time t taken in
pub coming-with : (c : Card) → Guarantees c → (frames : List ℕ) (t j a : ℕ)
    → (coming_at c frames t j a + sum_below c.k (λ i. generator c i j a * digit frames i t)) % 2 ≡ coming_with c frames t j a
unfolding coming_at coming_with
coming-with c G frames t j a =
    mod-add-mod _ 2 _
    ∙ ap (λ x. x % 2) (sym (sum-add c.k _ _) ∙ sum-cong c.k part)
  where
    now : (i : ℕ) → back (digit frames i) t 0 ≡ digit frames i t
    now i = back_in (digit frames i) t 0 (omega arith) ∙ ap (digit frames i) (omega arith)

    part : (i : ℕ)
        → sum_below (suc c.m) (λ b. generator c i j (suc a + b) * back (digit frames i) t (suc b)) + generator c i j a * digit frames i t
        ≡ sum_below (suc c.m) (λ b. generator c i j (a + b) * back (digit frames i) t b)
    part i =
        let f : ℕ → ℕ = λ b. generator c i j (suc a + b) * back (digit frames i) t (suc b) in
        let g : ℕ → ℕ = λ b. generator c i j (a + b) * back (digit frames i) t b in
        let cut : sum_below (suc c.m) f ≡ sum_below c.m f =
        sum-cut (suc c.m) c.m f (omega arith)
        (λ b l. ap (λ x. x * back (digit frames i) t (suc b)) (generator-beyond c G i j (suc a + b) (omega arith)) ∙ omega arith) in
        let first : sum_below (suc c.m) g ≡ g 0 + sum_below c.m (λ b. g (suc b)) = sum_first c.m g in
        let rest : sum_below c.m (λ b. g (suc b)) ≡ sum_below c.m f =
        sum-cong c.m (λ b. ap (λ n. generator c i j n * back (digit frames i) t (suc b)) (add-suc a b ∙ sym (suc-add a b))) in
        let zero : g 0 ≡ generator c i j a * digit frames i t = ap₂ (λ n x. generator c i j n * x) (add-zero a) (now i) in
        omega arith

-- at its time it is the parity
pub coming-now : (c : Card) (frames : List ℕ) (t j : ℕ) → coming_with c frames t j 0 ≡ parity_at c frames j t
unfolding coming_with parity_at
coming-now c frames t j = ap (λ x. x % 2) (sum-cong c.k (λ i. sum-cong (suc c.m) (λ b. ap (λ n. generator c i j n * back (digit frames i) t b) (zero-add b))))

-- and for later times it is what comes before the next frame
pub coming-later : (c : Card) (frames : List ℕ) (t j a : ℕ) → coming_with c frames t j (suc a) ≡ coming_at c frames (suc t) j a
unfolding coming_with coming_at
coming-later c frames t j a =
    ap (λ x. x % 2) (sum-cong c.k (λ i. sum-cong (suc c.m) (λ b. ap (λ n. generator c i j (suc a + b) * n) (sym (back-suc (digit frames i) t b)))))

-- ---- a register of the parity to come on stream j, before the frame f of time t, and the sum of the generators of f
module _ (c : Card) (G : Guarantees c) (frames : List ℕ) (t f j : ℕ) (hj : j < c.p) (register sum : ℕ) (hf : f ≡ get_or frames t 0)
    (hs : sum ≡ generator_sum c.generators c.k (f % 2 ^ c.k) j) (B : (a : ℕ) → bit register a ≡ coming_at c frames t j a) where
  -- the register with the frame
  pub register-with : (a : ℕ) → bit (bit_xor register sum) a ≡ coming_with c frames t j a
  unfolding digit
  register-with a =
      bit-xor register sum a
      ∙ ap₂ (λ x y. (x + y) % 2) (B a)
      (ap (λ y. bit y a) hs
      ∙ sum-bit c G (f % 2 ^ c.k) j a hj
      ∙ ap (λ y. y % 2)
      (sum_same c.k _ (λ i. generator c i j a * digit frames i t) (λ i li. ap (λ y. generator c i j a * y) (bit-mod f c.k i li ∙ ap (λ y. bit y i) hf))))
      ∙ add-mod-mod _ _ 2
      ∙ coming-with c G frames t j a

  -- the code's parity at t is its lowest digit
  pub register-parity : bit_xor register sum % 2 ≡ parity_at c frames j t
  register-parity = sym (bit-zero _) ∙ register-with 0 ∙ coming-now c frames t j

  -- and a place further it stands before the next frame
  pub register-next : (a : ℕ) → bit (bit_xor register sum / 2) a ≡ coming_at c frames (suc t) j a
  register-next a = sym (bit-suc _ a) ∙ register-with (suc a) ∙ coming-later c frames t j a
