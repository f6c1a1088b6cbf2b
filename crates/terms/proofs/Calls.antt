-- A receiving call by the page: what its readings yield, and by which number it is refused. It is what the session's own definition says of it.
use Prim.Native.Nat.{ℕ, zero, suc, ◌+◌, ◌*◌, ◌^◌, ◌≤◌, ◌<◌}
use mathlib.Core.Path.{◌≡◌, refl, sym, ap, ◌∙◌}
use mathlib.Core.Bool.{Bool, true, false, cond, not}
use mathlib.Core.Logic.{⊎_elim}
use mathlib.Core.List.{[], ◌∷◌}
use native.Mathlib.Nat.{zero-mul, suc-mul}
use native.Mathlib.Omega.{arith}
use lib.ListN.{get_or}
use lib.Dec.{leb, ltb, eqb}
use lib.Ieee.{nan, inf, fin, up, down}
use lib.Pow.{pow_pos}
use borrow.Author.Tests.{lt-ltb, le-ltb, le-leb, lt-leb}
use Rattle.bits.specs.Sums.{sum_below}
use Rattle.bits.specs.Digits.{from_digits}
use Rattle.bits.proofs.Cases.{le-or-lt, same_or_not, cond-le}
use Rattle.bits.proofs.Digits.{from_digits-lt, from_digits-same}
use Rattle.bits.proofs.Sums.{sum-none, none_of-sum, sum-cong}
use Rattle.code.specs.Code.{most_frames}
use Rattle.code.specs.Guarantees.{Guarantees}
use Rattle.code.specs.declared.Card.{Card}
use Rattle.receiving.specs.Calls as call
use Rattle.receiving.specs.Calls.{Call, byte, readings, number_in}
use Rattle.receiving.specs.Readings as yield
use Rattle.receiving.specs.Readings.{Yield, yields, refuses}
use Rattle.receiving.specs.Receive.{sizes_in, admit_of}
use Rattle.receiving.specs.declared.Reading.{Reading}
use Rattle.receiving.specs.declared.Reading.TheVariants.{Level, Erased}
use Rattle.receiving.proofs.Outcomes.{admission}
use Rattle.terms.specs.Terms.{when, first, digits_of, refusal, read_now}
use Rattle.terms.proofs.Told.{settled}

-- ---- a reading

-- 1 if it yields this
abbrev pub is : ℕ → ℕ → ℕ
is value x = cond (eqb x value) 1 0

pub is_le : (value x : ℕ) → is value x ≤ 1
is_le value x = cond-le (eqb x value) 1 0 1 (omega arith) (omega arith)

-- a digit, 'erased' or a refusal
abbrev Same : ℕ → yield.ReadingYield → Type 0
Same x y = (is 1 x ≡ yield.digit_in y) × (is 2 x ≡ yield.mark_in y) × (is 12 x ≡ yield.fault_in y)

reading-is : (r : Reading) → Same (read_now r) (yield.digit_of r)
unfolding read_now yield.digit_in yield.mark_in yield.fault_in yield.digit_of yield.digit_of_level yield.in_band
reading-is Erased = (refl, refl, refl)
reading-is (Level nan) = (refl, refl, refl)
reading-is (Level (inf sign)) = (refl, refl, refl)
reading-is (Level (fin sign m e)) = go sign (ltb (4 * (m * up e)) (down e))
  where
    go : (sign b : Bool) → Same (cond b 2 (cond sign 0 1)) (cond b yield.erased (yield.digit (cond sign 0 1)))
    go true true = (refl, refl, refl)
    go true false = (refl, refl, refl)
    go false true = (refl, refl, refl)
    go false false = (refl, refl, refl)

-- ---- a frame
module _ (n : ℕ) where
  pub frame_is : (a : Call) → digits_of 1 read_now n a ≡ call.frame_in n a
  unfolding digits_of call.frame_in yield.frame_read
  frame_is (byte number f) = refl
  frame_is (readings number levels) = from_digits-same n _ _ (λ s l. (reading-is (get_or levels s (Level nan))).0)

  pub erased-is : (a : Call) → digits_of 2 read_now n a ≡ call.erased_in n a
  unfolding digits_of call.erased_in yield.erased_read
  erased-is (byte number f) = refl
  erased-is (readings number levels) = from_digits-same n _ _ (λ s l. (reading-is (get_or levels s (Level nan))).1)

  -- its digits are none exactly if their sum is
  some-digit : (d : ℕ → ℕ) → ltb 0 (from_digits n d) ≡ ltb 0 (sum_below n d)
  unfolding from_digits
  some-digit d =
      ⊎_elim
      (λ (z : sum_below n d ≡ 0). rw (z, sum-none n (λ a. d a * 2 ^ a) (λ a l. rw (none_of-sum n d z a l) (zero-mul (2 ^ a)))))
      (λ (some : sum_below n d ≡ 0 → ⊥).
      lt-ltb 0 _ (above (λ z. some (sum-none n d (λ a l. digit-none (d a) a (none_of-sum n (λ a. d a * 2 ^ a) z a l))))) ∙ sym (lt-ltb 0 _ (above some)))
      (same_or_not (sum_below n d) 0)
    where
      above : {x : ℕ} → (x ≡ 0 → ⊥) → 0 < x
      above ne = omega arith

      digit-none : (x a : ℕ) → x * 2 ^ a ≡ 0 → x ≡ 0
      digit-none zero a z = refl
      digit-none (suc x) a z = absurd (omega (arith, suc-mul x (2 ^ a), pow_pos a))

-- ---- refusals
full_is : (t : ℕ) → leb 1048576 t ≡ not (ltb t 1048576)
full_is t =
    ⊎_elim (λ (l : 1048576 ≤ t). le-leb _ _ l ∙ sym (ap not (le-ltb t 1048576 l))) (λ (l : t < 1048576). lt-leb _ _ l ∙ sym (ap not (lt-ltb t 1048576 l)))
    (le-or-lt 1048576 t)

in_order : (a b d e : Bool) (y : Yield)
    → settled y refuses (first (when 14 (not a) ∷ when 15 (not b) ∷ when 11 d ∷ when 12 e ∷ []))
    ≡ cond a (cond b (cond d (refuses 11) (cond e (refuses 12) y)) (refuses 15)) (refuses 14)
unfolding first
in_order true true true e y = refl
in_order true true false true y = refl
in_order true true false false y = refl
in_order true false d e y = refl
in_order false b d e y = refl

pub admission-is : (c : Card) → Guarantees c → (t : ℕ) (a : Call)
    → admission c t a ≡ settled (yields (call.frame_in (c.k + c.p) a) (call.erased_in (c.k + c.p) a)) refuses (refusal read_now c t a)
unfolding admission admit_of refusal number_in digits_of yield.read_byte_of yield.read_frame_of yield.faults call.frame_in call.erased_in
admission-is c G t (byte number f) =
    let n : (sizes_in c).n ≡ c.k + c.p = omega (arith, G.k_most, G.n_most) in
    rw (n, full_is) (sym (in_order (eqb number c.number) (ltb t most_frames) (leb (2 ^ (c.k + c.p)) f) false (yields f 0)))
admission-is c G t (readings number levels) =
    let n : (sizes_in c).n ≡ c.k + c.p = omega (arith, G.k_most, G.n_most) in
    let k = c.k + c.p in
    let y = yields (call.frame_in k (readings number levels)) (call.erased_in k (readings number levels)) in
    let small = lt-leb (2 ^ k) _ (from_digits-lt k (λ s. is 1 (read_now (get_or levels s (Level nan)))) (λ s l. omega (arith, is_le 1 (read_now (get_or levels s (Level nan)))))) in
    let faulty = some-digit k (λ s. is 12 (read_now (get_or levels s (Level nan)))) ∙ ap (ltb 0) (sum-cong k (λ s. (reading-is (get_or levels s (Level nan))).2)) in
    rw (n, full_is, small, faulty) (sym (in_order (eqb number c.number) (ltb t most_frames) false (ltb 0 (yield.faults levels k)) y))
