-- A correctable stream comes out as sent: the third term over the rule. If for each information digit the wrong digits among those that its voting checks
-- touch are at most half of the votes, rounded down, then the frames handed out are the information frames. It holds whichever checks vote.
use Prim.Native.Nat.{ℕ, zero, suc, ◌+◌, ◌-◌, ◌*◌, ◌%◌, ◌^◌, ◌≤◌, ◌<◌, min}
use mathlib.Core.Path.{◌≡◌, refl, sym, ap, ◌∙◌}
use mathlib.Core.Logic.{⊎_elim}
use mathlib.Core.List.{List}
use native.Mathlib.Nat.{add-zero, one-mul, mod-eq_of_lt, le_trans, mul-le-mul_right, le_of_eq}
use native.Mathlib.Decide.{dec_lt}
use native.Mathlib.Omega.{arith}
use lib.ListN.{length, get_or}
use lib.Seq.{ext_get_or}
use Rattle.bits.specs.Sums.{sum_below}
use Rattle.bits.specs.Digits.{bit}
use Rattle.bits.proofs.Sums.{sum_mono, at_most_one}
use Rattle.bits.proofs.Cases.{last-or-below}
use Rattle.bits.proofs.Digits.{from_digits-bits, from_digits-same}
use Rattle.code.specs.Code.{digit, sent}
use Rattle.code.specs.Checks.{count, touches}
use Rattle.code.specs.Guarantees.{Guarantees}
use Rattle.code.specs.declared.Card.{Card}
use Rattle.code.proofs.Besides.{own-apart}
use Rattle.code.proofs.Frames.{digit-le}
use Rattle.code.proofs.Sent.{sent-info, sent-parity, with_tail-digit}
use Rattle.code.proofs.Touches.{touches-le}
use Rattle.majority.specs.Rule.{voting, voters, check_at, votes, decide, decided, corrected, decoded}
use Rattle.majority.specs.AsSent.{wrong, touched, wrong_touched, Correctable}
use Rattle.majority.proofs.Streams.{test-as-number, decided-digit, decided-none, decoded-length, decoded-at}
use Rattle.majority.proofs.Majority.{touched_sum, besides_sum, few_ones, many-ones, hit_few}
use Rattle.majority.proofs.Linear.{check-errors}

-- every error of the frames before u was decided rightly
abbrev RightBefore : Card → List ℕ → List ℕ → List ℕ → ℕ → Type 0
RightBefore c info frames erased u = (v i : ℕ) → i < c.k → v < u → digit (decided c frames erased u) i v ≡ wrong c info frames v i

wrong-le : (c : Card) (info frames : List ℕ) (u s : ℕ) → wrong c info frames u s ≤ 1
unfolding wrong
wrong-le c info frames u s = omega arith

voting-le : (c : Card) (erased : List ℕ) (u i q : ℕ) → voting c erased u i q ≤ 1
unfolding voting
voting-le c erased u i q = omega arith

-- the received digit plus its error is the sent one
mended : (c : Card) (info frames : List ℕ) (u s d : ℕ) → d ≡ wrong c info frames u s → (digit frames s u + d) % 2 ≡ digit (sent c info) s u
unfolding wrong
mended c info frames u s d e = let l = digit-le (sent c info) s u in omega arith

-- the digit i at u
module _ (c : Card) (G : Guarantees c) (info frames erased : List ℕ) (u i : ℕ) (li : i < c.k) where
  -- the wrong digits that check q touches besides its own
  abbrev others : ℕ → ℕ
  others q = besides_sum (suc c.m) (c.k + c.p) i (touches c i q) (λ b s. wrong c info frames (u + b) s)

  -- the voting checks that are hit
  abbrev hits : ℕ
  hits = sum_below (count c i) (λ q. voting c erased u i q * min 1 (others q))

  -- orthogonality, as a count over the voting checks
  apart : (b s : ℕ) → b < suc c.m → s < c.k + c.p → (b ≡ 0 → s ≡ i → ⊥)
      → sum_below (count c i) (λ q. voting c erased u i q * touches c i q b s) ≤ 1
  apart b s lb ls ne =
      le_trans
      (sum_mono (count c i) _ (λ q. touches c i q b s)
      (λ q l. le_trans (mul-le-mul_right (touches c i q b s) (voting-le c erased u i q)) (le_of_eq (one-mul _))))
      (at_most_one (count c i) (λ q. touches c i q b s) (λ q l. touches-le c i q b s)
      (λ q r l l' e e'. (G.orthogonal i li).apart b s q r (omega arith) ls ne l l' e e'))

  -- the hit checks and the own error are at most the wrong digits that are touched
  hits-and-own : hits + wrong c info frames u i ≤ wrong_touched c info frames erased u i
  unfolding wrong_touched touched touched_sum
  hits-and-own =
      let h = hit_few (count c i) (suc c.m) (c.k + c.p) i (voting c erased u i) (touches c i) (λ b s. wrong c info frames (u + b) s) (omega arith) (omega arith) apart in
      let n : wrong c info frames (u + 0) i ≡ wrong c info frames u i = ap (λ v. wrong c info frames v i) (add-zero u) in
      omega arith

  module _ (lu : u < length info) (before : RightBefore c info frames erased u) where
    -- where every error before u was decided rightly, a check at u is its own true error and the others that it touches
    right-check : (q : ℕ) → q < count c i → check_at c frames (decided c frames erased u) u i q ≡ (others q + wrong c info frames u i) % 2
    unfolding wrong touched_sum besides_sum
    right-check q lq =
        check-errors c frames (sent c info) (decided c frames erased u) (wrong c info frames) u (λ v s. refl) before (decided-none c frames erased u)
        (λ a j la lj. sent-parity c info j (u + a) lj (omega arith)) i q
        ∙ ap (λ x. x % 2)
        (own-apart (suc c.m) (c.k + c.p) i (λ b s. touches c i q b s * wrong c info frames (u + b) s) (omega arith) (omega arith)
        ∙ ap (λ x. others q + x) own-error)
      where
        own-error : touches c i q 0 i * wrong c info frames (u + 0) i ≡ wrong c info frames u i
        own-error = ap (λ x. x * wrong c info frames (u + 0) i) ((G.orthogonal i li).own q lq) ∙ one-mul _ ∙ ap (λ v. wrong c info frames v i) (add-zero u)

    -- where the digit is right, every check equal to 1 is hit ..
    few-votes : wrong c info frames u i ≡ 0 → votes c frames erased (decided c frames erased u) u i ≤ hits
    unfolding votes
    few-votes z = few_ones (count c i) (voting c erased u i) _ _ (λ q lq. let r = right-check q lq in omega arith)

    -- .. and where it is wrong, every check equal to 0
    many-votes : wrong c info frames u i ≡ 1 → voters c erased u i ≤ votes c frames erased (decided c frames erased u) u i + hits
    unfolding votes voters
    many-votes z = many-ones (count c i) (voting c erased u i) _ _ (λ q lq. let r = right-check q lq in omega arith)

    -- so under the third term's condition the decision is the true error
    right-decision : Correctable c info frames erased → decide c frames erased (decided c frames erased u) u i ≡ wrong c info frames u i
    unfolding decide
    right-decision few = go (dec_lt 0 (wrong c info frames u i))
      where
        go : Dec (0 < wrong c info frames u i) → decide c frames erased (decided c frames erased u) u i ≡ wrong c info frames u i
        go (yes l) =
            let z : wrong c info frames u i ≡ 1 = omega (arith, wrong-le c info frames u i) in
            let more = many-votes z in
            let h = hits-and-own in
            let f = few u i lu li in
            rw test-as-number (omega arith)
        go (no n) =
            let z : wrong c info frames u i ≡ 0 = omega arith in
            let most = few-votes z in
            let h = hits-and-own in
            let f = few u i lu li in
            rw test-as-number (omega arith)

module _ (c : Card) (G : Guarantees c) (info frames erased : List ℕ) (few : Correctable c info frames erased) where
  -- one frame after the other, all decided errors are the true ones
  right-decided : (u : ℕ) → u ≤ length info → RightBefore c info frames erased u
  right-decided zero l v i li lv = absurd (omega arith)
  right-decided (suc u) l v i li lv =
      decided-digit c frames erased (suc u) v i lv li
      ∙ ⊎_elim
      (λ e. rw e (right-decision c G info frames erased u i li (omega arith) (right-decided u (omega arith)) few))
      (λ below. sym (decided-digit c frames erased u v i below li) ∙ right-decided u (omega arith) v i li below)
      (last-or-below lv)

  -- received plus decided is sent
  corrected-right : (u : ℕ) → u < length info → get_or info u 0 < 2 ^ c.k → corrected c frames (decided c frames erased (length info)) u ≡ get_or info u 0
  unfolding corrected digit
  corrected-right u lu small =
      from_digits-same c.k _ (bit (get_or info u 0))
      (λ i li.
      mended c info frames u i (digit (decided c frames erased (length info)) i u) (right-decided (length info) (omega arith) u i li lu)
      ∙ sent-info c info i u li (omega arith)
      ∙ with_tail-digit c info i u lu)
      ∙ from_digits-bits c.k (get_or info u 0)
      ∙ mod-eq_of_lt small

-- the theorem: under the third term's condition the frames handed out are the information frames that were sent
pub decoded-as-sent : (c : Card) → Guarantees c → (info frames erased : List ℕ)
    → ((u : ℕ) → u < length info → get_or info u 0 < 2 ^ c.k)
    → length frames ≡ length info + c.m
    → Correctable c info frames erased
    → decoded c frames erased ≡ info
decoded-as-sent c G info frames erased small whole few =
    ext_get_or 0 (decoded c frames erased) info (decoded-length c frames erased ∙ n)
    (λ u lu.
    let l : u < length info = omega (arith, decoded-length c frames erased) in
    decoded-at c frames erased u (omega arith)
    ∙ ap (λ x. corrected c frames (decided c frames erased x) u) n
    ∙ corrected-right c G info frames erased few u l (small u l))
  where
    n : length frames - c.m ≡ length info
    n = omega arith
