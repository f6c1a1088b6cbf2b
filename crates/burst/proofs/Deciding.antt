-- The decision: with the frame of time t taken in, the registers decide the errors of time t - m as the rule does, and with these taken out they
-- are ready for the frame of time t + 1.
use Prim.Native.Nat.{ℕ, suc, ◌+◌, ◌-◌, ◌*◌, ◌%◌, ◌^◌, ◌≤◌, ◌<◌, min}
use mathlib.Core.Path.{◌≡◌, sym, ap, ap₂, ◌∙◌}
use mathlib.Core.Bool.{cond}
use mathlib.Core.Logic.{⊎_elim}
use mathlib.Core.List.{List, [], ◌∷◌, ◌++◌}
use native.Mathlib.Nat.{mod-eq_of_lt, add-mod-mod, mod-lt}
use native.Mathlib.Omega.{arith}
use lib.ListN.{length, get_or}
use lib.Bits.{bit_xor, xor_lt}
use lib.Pow.{pow_pos, pow_mono}
use borrow.Author.Tests.{lt-ltb, le-ltb, le-leb, lt-leb}
use Rattle.bits.specs.Sums.{sum_below, grown}
use Rattle.bits.specs.Digits.{bit}
use Rattle.bits.proofs.Sums.{sum-none}
use Rattle.bits.proofs.Lists.{part_at}
use Rattle.bits.proofs.Back.{back_in}
use Rattle.bits.proofs.Cases.{le-or-lt}
use Rattle.bits.proofs.Digits.{bit-lt, bit-mod, bit-xor, bit-of-zero, from_digits-same, from_digits-bits}
use Rattle.code.specs.Code.{generator, digit}
use Rattle.code.specs.Limits.{check_words}
use Rattle.code.specs.Guarantees.{Guarantees}
use Rattle.code.specs.declared.Card.{Card}
use Rattle.code.proofs.GeneratorSums.{sum-beyond}
use Rattle.majority.specs.Rule.{cleared, corrected}
use Rattle.majority.specs.Rule as Rule
use Rattle.majority.specs.Plain.{decide_frame, decided}
use Rattle.vote.specs.Voting.{decide_by_all}
use Rattle.vote.specs.Voters.{all_voting, decide_voters}
use Rattle.vote.proofs.Voting.{decide-lt, decide-all-lt, decide-wider, decide-all-is}
use Rattle.vote.proofs.WhoVotes.{all-decide}
use Rattle.majority.proofs.Plain.{decided-length, decided-at}
use Rattle.majority.proofs.Feedback.{cleared-fed}
use Rattle.burst.specs.Sums.{HasSums}
use Rattle.burst.specs.Registers.{taken_out, Corrected, NoneFrom, corrected_by}
use Rattle.burst.specs.declared.registers.Registers.{Registers}
use Rattle.burst.specs.Held.{syndrome_held, Before, With}
use Rattle.burst.proofs.Following.{sums-bit}

-- four streams at most are decided
pub decided-small : (words checks syndromes : List ℕ) (k p : ℕ) {errors : ℕ} → errors ≡ decide_voters words checks syndromes k p → errors < 16
decided-small words checks syndromes k p e = rw e (decide-lt _ _ checks syndromes k p)

-- the errors decided by all checks have a digit for each stream
pub all-lt : (counts checks syndromes : List ℕ) (k p : ℕ) → k ≤ 4 → decide_by_all counts checks syndromes k p < 2 ^ k
all-lt counts checks syndromes k p h = let e : min k 4 ≡ k = omega arith in rw e at (decide-all-lt counts checks syndromes k p)

pub all-small : (counts checks syndromes : List ℕ) (k p : ℕ) → k ≤ 4 → decide_by_all counts checks syndromes k p < 16
all-small counts checks syndromes k p h = omega (arith, all-lt counts checks syndromes k p h, pow_mono {i = k} {j = 4} h)

-- the vote of all checks, on all eight registers, of which those from the p-th on have no 1
pub voted-errors : (counts checks syndromes : List ℕ) (k p : ℕ) {errors : ℕ} → p ≤ 8 → length syndromes ≡ 8 → NoneFrom p syndromes
    → errors ≡ decide_voters (all_voting counts k) checks syndromes k 8 → check_words ≤ length checks → errors ≡ decide_by_all counts checks syndromes k p
voted-errors counts checks syndromes k p most wide none is long =
    is ∙ all-decide counts checks syndromes k 8 long (omega arith) ∙ decide-wider counts checks syndromes k p most none

module _ (c : Card) (G : Guarantees c) (frames : List ℕ) (t : ℕ) (r : Registers) (W : With c frames t r) (hm : c.m ≤ t) where
  -- place a has the syndrome of time t - m + a
  held_then : (j a : ℕ) → j < c.p → a ≤ c.m → bit (get_or r.syndromes j 0) a ≡ cleared c frames (decided c frames (t - c.m)) (t - c.m + a) j
  unfolding syndrome_held
  held_then j a hj ha =
      let errors = decided c frames (t - c.m) in
      let z : t - (c.m - a) ≡ t - c.m + a = omega arith in
      W.held_at j a hj
      ∙ ap (λ b. cond b (syndrome_held c frames t j a) 0) (le-leb a c.m ha)
      ∙ back_in (λ v. cleared c frames errors v j) t (c.m - a) (omega arith)
      ∙ ap (λ v. cleared c frames errors v j) z

  held-beyond : (j a : ℕ) → j < c.p → c.m < a → bit (get_or r.syndromes j 0) a ≡ 0
  held-beyond j a hj ha = W.held_at j a hj ∙ ap (λ b. cond b (syndrome_held c frames t j a) 0) (lt-leb a c.m ha)

  -- the registers decide as the rule does
  decide-then : decide_by_all c.counts c.checks r.syndromes c.k c.p ≡ decide_frame c frames (decided c frames (t - c.m)) (t - c.m)
  decide-then = decide-all-is c G frames (decided c frames (t - c.m)) (t - c.m) r.syndromes held_then held-beyond

  module _ (sums : List (List ℕ)) (S : HasSums c.generators c.k c.p (2 ^ c.k) sums)
      (after : Registers) (errors : ℕ) (C : Corrected sums c.counts c.checks c.k c.p r after errors) where
    errors_are : errors ≡ decide_by_all c.counts c.checks r.syndromes c.k c.p
    errors_are = C.errors_are (omega (arith, G.checks_long))

    errors_lt : errors < 2 ^ c.k
    errors_lt = rw errors_are (all-lt c.counts c.checks r.syndromes c.k c.p G.k_most)

    -- the generators of the streams in error are taken out, or there is nothing to take out
    fed-bit : (j a : ℕ) → j < c.p → bit (get_or after.syndromes j 0) a ≡ (bit (get_or r.syndromes j 0) a + sum_below c.k (λ i. generator c i j a * bit errors i)) % 2
    unfolding taken_out
    fed-bit j a hj =
        ⊎_elim
        (λ (w : (errors ≡ 0) × (after.syndromes ≡ r.syndromes)).
        let z : sum_below c.k (λ i. generator c i j a * bit errors i) ≡ 0 =
        sum-none c.k _ (λ i l. ap (λ e. generator c i j a * bit e i) w.0 ∙ ap (λ x. generator c i j a * x) (bit-of-zero i) ∙ omega arith) in
        ap (λ l. bit (get_or l j 0) a) w.1 ∙ omega (arith, bit-lt (get_or r.syndromes j 0) a))
        (λ w.
        ap (λ l. bit (get_or l j 0) a) w
        ∙ ap (λ x. bit x a) (part_at (taken_out sums r.syndromes errors) r.syndromes c.p j hj)
        ∙ bit-xor (get_or r.syndromes j 0) (get_or (get_or sums j []) errors 0) a
        ∙ ap (λ x. (bit (get_or r.syndromes j 0) a + x) % 2) (sums-bit c G sums S errors j a errors_lt hj)
        ∙ add-mod-mod (bit (get_or r.syndromes j 0) a) _ 2)
        C.after_is

    -- the errors are those of the rule
    pub errors-is : errors ≡ decide_frame c frames (decided c frames (t - c.m)) (t - c.m)
    errors-is = errors_are ∙ decide-then

    fed_then : (j a : ℕ) → j < c.p → a < c.m
        → (bit (get_or r.syndromes j 0) (suc a) + sum_below c.k (λ i. generator c i j (suc a) * bit errors i)) % 2 ≡ syndrome_held c frames (suc t) j a
    unfolding Rule.decided grown syndrome_held
    fed_then j a hj ha =
        let u = t - c.m in
        let before = decided c frames u in
        let v = u + suc a in
        let n = decided-length c frames u in
        let q : suc a ≡ v - length before = omega arith in
        let s : suc t - c.m ≡ suc u = omega arith in
        let w : suc t - (c.m - a) ≡ v = omega arith in
        ap (λ x. (x + sum_below c.k (λ i. generator c i j (suc a) * bit errors i)) % 2) (held_then j (suc a) hj (omega arith))
        ∙ ap (λ b. (cleared c frames before v j + sum_below c.k (λ i. generator c i j b * bit errors i)) % 2) q
        ∙ sym (cleared-fed before errors v (omega arith) c j (omega arith) frames)
        ∙ ap (λ e. cleared c frames (before ++ (e ∷ [])) v j) errors-is
        ∙ ap₂ (λ n v. cleared c frames (decided c frames n) v j) (sym s) (sym w)
        ∙ sym (back_in (λ v. cleared c frames (decided c frames (suc t - c.m)) v j) (suc t) (c.m - a) (omega arith))

    -- and the registers are ready for the next frame
    pub fed_back_first : Before c frames (suc t) after
    fed_back_first =
        record {
          coming_held = λ j a hj. ap (λ l. bit (get_or l j 0) a) C.coming_same ∙ W.coming_held j a hj;
          held_at = λ j a hj.
              fed-bit j (suc a) hj
              ∙ ⊎_elim
              (λ (l : c.m ≤ a).
              none j a l (held-beyond j (suc a) hj (omega arith)) ∙ sym (ap (λ b. cond b (syndrome_held c frames (suc t) j a) 0) (le-ltb a c.m l)))
              (λ (l : a < c.m). fed_then j a hj l ∙ sym (ap (λ b. cond b (syndrome_held c frames (suc t) j a) 0) (lt-ltb a c.m l)))
              (le-or-lt c.m a);
        }
      where
        none : (j a : ℕ) {x : ℕ} → c.m ≤ a → x ≡ 0 → (x + sum_below c.k (λ i. generator c i j (suc a) * bit errors i)) % 2 ≡ 0
        none j a l e = omega (arith, e, sum-beyond c G errors j (suc a) (omega arith))

    -- the frame handed out, whatever is decided later
    pub handed_out : (n : ℕ) → t - c.m < n
        → corrected_by (get_or frames (t - c.m) 0) c.k errors ≡ corrected c frames (decided c frames n) (t - c.m)
    unfolding corrected_by corrected digit
    handed_out n hn =
        let u = t - c.m in
        let f = get_or frames u 0 in
        let x = bit_xor (f % 2 ^ c.k) errors in
        let hx : x < 2 ^ c.k = xor_lt c.k (f % 2 ^ c.k) errors (mod-lt f (pow_pos c.k)) errors_lt in
        sym (mod-eq_of_lt hx)
        ∙ sym (from_digits-bits c.k x)
        ∙ from_digits-same c.k _ _
        (λ i l.
        bit-xor (f % 2 ^ c.k) errors i
        ∙ ap₂ (λ y e. (y + e) % 2) (bit-mod f c.k i l) (ap (λ e. bit e i) (errors-is ∙ sym (decided-at c frames n u hn))))
