-- The vote over functions: Theorem 1 of the report (source document 004). A check that is not hit, that is, touches no wrong digit besides its own,
-- equals the error of its own digit; so the majority goes with that error as long as the hit checks are not too many among those that vote.
-- Digits are counted by b, below B, and s, below S; the own one is (0, i). Check q votes if v q is 1; it touches the digit (b, s) if t q b s is 1, and
-- the error of the digit is e b s.
use Prim.Native.Nat.{ℕ, ◌+◌, ◌-◌, ◌*◌, ◌≤◌, ◌<◌, min}
use mathlib.Core.Path.{◌≡◌, sym, ap, ◌∙◌}
use mathlib.Core.Logic.{⊎_elim}
use native.Mathlib.Nat.{le_trans, le_of_eq, zero-mul, one-mul, mul-one, mul-add, mul_comm, mul_assoc, mul-le-mul_right, mul-le-mul_left}
use native.Mathlib.Omega.{arith}
use Rattle.bits.specs.Sums.{sum_below}
use Rattle.bits.proofs.Sums.{sum-cong, sum-add, sum-scale, sum-scale-left, sum-swap, sum_mono}
use Rattle.code.specs.Checks.{besides}
use Rattle.code.proofs.Besides.{besides-own, besides-other, own-or-other, own-apart}

-- what a check that touches the digits t adds up of the errors e, before the remainder
unfoldable pub touched_sum : ℕ → ℕ → (ℕ → ℕ → ℕ) → (ℕ → ℕ → ℕ) → ℕ
touched_sum B S t e = sum_below B (λ b. sum_below S (λ s. t b s * e b s))

-- of its errors besides the own one
unfoldable pub besides_sum : ℕ → ℕ → ℕ → (ℕ → ℕ → ℕ) → (ℕ → ℕ → ℕ) → ℕ
besides_sum B S i t e = sum_below B (λ b. sum_below S (λ s. besides i b s * (t b s * e b s)))

-- ---- the votes: of the J checks, q is equal to x q, and hit if h q is 1
module _ (J : ℕ) (v x h : ℕ → ℕ) where
  -- where each check equal to 1 is hit
  pub few_ones : ((q : ℕ) → q < J → x q ≤ h q) → sum_below J (λ q. v q * x q) ≤ sum_below J (λ q. v q * h q)
  few_ones l = sum_mono J _ _ (λ q lq. mul-le-mul_left (v q) (l q lq))

  -- where each check equal to 0 is hit
  pub many-ones : ((q : ℕ) → q < J → 1 ≤ x q + h q) → sum_below J v ≤ sum_below J (λ q. v q * x q) + sum_below J (λ q. v q * h q)
  many-ones l =
      le_trans
      (sum_mono J v (λ q. v q * x q + v q * h q)
      (λ q lq. le_trans (le_of_eq (sym (mul-one (v q)))) (le_trans (mul-le-mul_left (v q) (l q lq)) (le_of_eq (mul-add (v q) (x q) (h q))))))
      (le_of_eq (sum-add J (λ q. v q * x q) (λ q. v q * h q)))

-- ---- how many checks can be hit, where no digit but the own one is touched by two that vote
module _ (J B S i : ℕ) (v : ℕ → ℕ) (t : ℕ → ℕ → ℕ → ℕ) (e : ℕ → ℕ → ℕ)
    (times : 0 < B)
    (own_stream : i < S)
    (apart : (b s : ℕ) → b < B → s < S → (b ≡ 0 → s ≡ i → ⊥) → sum_below J (λ q. v q * t q b s) ≤ 1) where
  -- 1 if the digit is the own one, or touched by a check that votes
  abbrev touched_by_any : ℕ → ℕ → ℕ
  touched_by_any b s = min 1 (1 - besides i b s + sum_below J (λ q. v q * t q b s))

  -- what the voting checks touch besides the own digit, added up digit by digit
  by-digit : sum_below J (λ q. v q * besides_sum B S i (t q) e)
      ≡ sum_below B (λ b. sum_below S (λ s. besides i b s * (sum_below J (λ q. v q * t q b s) * e b s)))
  unfolding besides_sum
  by-digit =
      sum-cong J (λ q. sym (sum-scale-left B _ (v q)) ∙ sum-cong B (λ b. sym (sum-scale-left S _ (v q))))
      ∙ sum-swap J B (λ q b. sum_below S (λ s. v q * (besides i b s * (t q b s * e b s))))
      ∙ sum-cong B
      (λ b.
      sum-swap J S (λ q s. v q * (besides i b s * (t q b s * e b s)))
      ∙ sum-cong S
      (λ s.
      sum-cong J (λ q. regroup (v q) (besides i b s) (t q b s) (e b s))
      ∙ sum-scale-left J (λ q. v q * t q b s * e b s) (besides i b s)
      ∙ ap (λ x. besides i b s * x) (sum-scale J (λ q. v q * t q b s) (e b s))))
    where
      regroup : (a b c d : ℕ) → a * (b * (c * d)) ≡ b * (a * c * d)
      regroup a b c d = sym (mul_assoc a b (c * d)) ∙ ap (λ x. x * (c * d)) (mul_comm a b) ∙ mul_assoc b a (c * d) ∙ ap (λ x. b * x) (sym (mul_assoc a c d))

  -- a digit other than the own one is touched by one voting check at most
  each : (b s : ℕ) → b < B → s < S
      → besides i b s * (sum_below J (λ q. v q * t q b s) * e b s) ≤ besides i b s * (touched_by_any b s * e b s)
  each b s lb ls =
      ⊎_elim (λ (z : besides i b s ≡ 0). rw z (le_of_eq (zero-mul _ ∙ sym (zero-mul _))))
      (λ (n : b ≡ 0 → s ≡ i → ⊥).
      let o = apart b s lb ls n in
      let z = besides-other i b s n in
      mul-le-mul_left (besides i b s) (mul-le-mul_right (e b s) (omega arith)))
      (own-or-other i b s)

  -- the hit checks and the own error together are at most the errors of the own digit and of those that the voting checks touch, each counted once
  pub hit_few : sum_below J (λ q. v q * min 1 (besides_sum B S i (t q) e)) + e 0 i
      ≤ touched_sum B S (λ b s. min 1 (1 - besides i b s + sum_below J (λ q. v q * t q b s))) e
  unfolding touched_sum
  hit_few =
      let a = sum_mono J (λ q. v q * min 1 (besides_sum B S i (t q) e)) _ (λ q l. mul-le-mul_left (v q) (least (besides_sum B S i (t q) e))) in
      let d = by-digit in
      let f = sum_mono B _ _ (λ b lb. sum_mono S _ _ (λ s ls. each b s lb ls)) in
      let g = own-apart B S i (λ b s. touched_by_any b s * e b s) times own_stream in
      let h : touched_by_any 0 i * e 0 i ≡ e 0 i = ap (λ x. x * e 0 i) own-counted ∙ one-mul (e 0 i) in
      omega arith
    where
      least : (x : ℕ) → min 1 x ≤ x
      least x = omega arith

      own-counted : touched_by_any 0 i ≡ 1
      own-counted = let z = besides-own i in omega arith
