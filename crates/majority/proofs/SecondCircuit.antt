-- The two circuits hand out the same frames for every stream, correctable or not: a vote of the second is the check of the first plus the received
-- digit. Of the checks this needs only that each touches its own digit.
use Prim.Native.Nat.{ℕ, zero, suc, ◌+◌, ◌-◌, ◌*◌, ◌%◌, ◌≤◌, ◌<◌, min}
use mathlib.Core.Path.{◌≡◌, refl, sym, ap, ap₂, ◌∙◌}
use mathlib.Core.Logic.{⊎_elim}
use mathlib.Core.Bool.{cond}
use mathlib.Core.List.{List}
use native.Mathlib.Nat.{add-zero, one-mul, zero-mul, mul-zero, mul-one, mul-add, add-mul, mod-mod, add-mod-mod, mod-add-mod}
use native.Mathlib.Decide.{dec_lt}
use native.Mathlib.Omega.{arith}
use lib.ListN.{length, get_or}
use lib.Seq.{ext_get_or}
use lib.Dec.{ltb}
use borrow.Author.Tests.{lt-ltb, le-ltb}
use Rattle.bits.specs.Digits.{bit}
use Rattle.bits.proofs.Cases.{le-or-lt, last-or-below}
use Rattle.bits.proofs.Sums.{sum_same, sum-cong, sum-add, sum-mod, sum-none, mul_mod_left}
use Rattle.bits.proofs.Digits.{bit-from_digits, from_digits-same}
use Rattle.bits.proofs.Lists.{grown-length, grown-at}
use Rattle.code.specs.Code.{digit}
use Rattle.code.specs.Checks.{count, check_mask, touches, besides}
use Rattle.code.specs.Guarantees.{Guarantees}
use Rattle.code.specs.declared.Card.{Card}
use Rattle.code.proofs.Besides.{besides-own, besides-le, own-apart}
use Rattle.code.proofs.Frames.{digit-le}
use Rattle.code.proofs.ParityLaws.{parity_sum, parity-sum, parity-add, parity-same, parity-from}
use Rattle.majority.specs.Rule.{syndrome, cleared, check_at, voting, voters, votes, decide, decided, corrected, decoded}
use Rattle.majority.specs.SecondCircuit.{entering, vote, votes_for_one, decide_digit, decide_digits, decided_digits, decoded_by_digits}
use Rattle.majority.proofs.Streams.{test-as-number, decided-digit, decided-none, decoded-length, decoded-at}
use Rattle.majority.proofs.Majority.{touched_sum}
use Rattle.majority.proofs.Linear.{check_sum, check-touched}

-- ---- the majority: more votes than half, fewer, or a tie
module _ (c : Card) (frames erased digits : List ℕ) (u i : ℕ) where
  decide-more : voters c erased u i < 2 * votes_for_one c frames erased digits u i → decide_digit c frames erased digits u i ≡ 1
  unfolding decide_digit
  decide-more l = rw (lt-ltb (voters c erased u i) (2 * votes_for_one c frames erased digits u i) l)

  decide-fewer : 2 * votes_for_one c frames erased digits u i < voters c erased u i → decide_digit c frames erased digits u i ≡ 0
  unfolding decide_digit
  decide-fewer l = rw (le-ltb (voters c erased u i) (2 * votes_for_one c frames erased digits u i) (omega arith), lt-ltb (2 * votes_for_one c frames erased digits u i) (voters c erased u i) l)

  decide-tie : 2 * votes_for_one c frames erased digits u i ≡ voters c erased u i → decide_digit c frames erased digits u i ≡ digit frames i u
  unfolding decide_digit
  decide-tie e =
      rw (le-ltb (voters c erased u i) (2 * votes_for_one c frames erased digits u i) (omega arith), le-ltb (2 * votes_for_one c frames erased digits u i) (voters c erased u i) (omega arith))

  -- as a number, which `omega` reads
  digit-as-number : decide_digit c frames erased digits u i
      ≡ min (1 - (voters c erased u i - 2 * votes_for_one c frames erased digits u i)) (digit frames i u + (2 * votes_for_one c frames erased digits u i - voters c erased u i))
  digit-as-number =
      let r = digit-le frames i u in
      ⊎_elim
      (λ (l : 2 * votes_for_one c frames erased digits u i ≤ voters c erased u i).
      ⊎_elim (λ (l' : voters c erased u i ≤ 2 * votes_for_one c frames erased digits u i). omega (arith, decide-tie (omega arith)))
      (λ (l' : 2 * votes_for_one c frames erased digits u i < voters c erased u i). omega (arith, decide-fewer l')) (le-or-lt (voters c erased u i) (2 * votes_for_one c frames erased digits u i)))
      (λ (l : voters c erased u i < 2 * votes_for_one c frames erased digits u i). omega (arith, decide-more l)) (le-or-lt (2 * votes_for_one c frames erased digits u i) (voters c erased u i))

  decide_digit-le : decide_digit c frames erased digits u i ≤ 1
  decide_digit-le = omega (arith, digit-as-number, digit-le frames i u)

  decide_digit-lt : decide_digit c frames erased digits u i < 2
  decide_digit-lt = omega (arith, decide_digit-le)

-- the digit i at u alone, out of all that are received
unfoldable alone : List ℕ → ℕ → ℕ → ℕ → ℕ → ℕ
alone frames u i s v = cond (ltb v u) 0 ((1 - besides i (v - u) s) * digit frames s v)

module _ (frames : List ℕ) (u i : ℕ) where
  alone-before : (s v : ℕ) → v < u → alone frames u i s v ≡ 0
  unfolding alone
  alone-before s v l = rw (lt-ltb v u l)

  alone-from : (s b : ℕ) → alone frames u i s (u + b) ≡ (1 - besides i b s) * digit frames s (u + b)
  unfolding alone
  alone-from s b = let e : u + b - u ≡ b = omega arith in rw (le-ltb (u + b) u (omega arith), e)

  -- from u on, the digits that enter a vote and the digit itself are those received
  received-from : (digits : List ℕ) (s v : ℕ) → u ≤ v → digit frames s v ≡ entering frames digits u i s v + alone frames u i s v
  unfolding entering alone
  received-from digits s v l = rw (le-ltb v u l) (parts (besides i (v - u) s) (digit frames s v) (besides-le i (v - u) s))
    where
      parts : (b r : ℕ) → b ≤ 1 → r ≡ b * r + (1 - b) * r
      parts b r h = let e : 1 ≡ b + (1 - b) = omega arith in sym (one-mul r) ∙ ap (λ x. x * r) e ∙ add-mul b (1 - b) r

-- ---- one vote
-- received parity A; the parity sums of the received digits, the decided errors, the entering digits and the digit itself F, E, X, O; what enters of
-- A is T, and what of it is the digit itself D
vote-remainders : (A F E T X D O : ℕ) → A ≡ T + D → (F + E) % 2 ≡ (X + O) % 2 → ((A + F % 2) % 2 + E % 2) % 2 % 2 ≡ (T + X + (D + O)) % 2
vote-remainders A F E T X D O a r =
    rw (mod-mod, add-mod-mod A F 2, mod-add-mod (A + F) 2 (E % 2), add-mod-mod (A + F) E 2)
    (ap (λ x. x % 2) left ∙ sym (add-mod-mod A (F + E) 2) ∙ ap (λ x. (A + x) % 2) r ∙ add-mod-mod A (X + O) 2 ∙ ap (λ x. x % 2) right)
  where
    left : A + F + E ≡ A + (F + E)
    left = omega arith

    right : A + (X + O) ≡ T + X + (D + O)
    right = omega arith

-- the digit i at u, where the digits decided before u are the received ones plus the errors decided before u
module _ (c : Card) (frames errors digits : List ℕ) (u : ℕ)
    (before : (v s : ℕ) → s < c.k → v < u → digit digits s v ≡ (digit frames s v + digit errors s v) % 2)
    (none_after : (v s : ℕ) → u ≤ v → digit errors s v ≡ 0)
    (i : ℕ) (li : i < c.k) (own : (q : ℕ) → q < count c i → touches c i q 0 i ≡ 1) where
  -- received digits and decided errors together, modulo two
  both : (s v : ℕ) → s < c.k → (digit frames s v + digit errors s v) % 2 ≡ (entering frames digits u i s v + alone frames u i s v) % 2
  both s v ls = ⊎_elim late early (le-or-lt u v)
    where
      late : u ≤ v → (digit frames s v + digit errors s v) % 2 ≡ (entering frames digits u i s v + alone frames u i s v) % 2
      late l = let a = received-from frames u i digits s v l in let b = none_after v s l in omega arith

      as-decided : v < u → entering frames digits u i s v ≡ digit digits s v
      as-decided l = unfold entering in rw (lt-ltb v u l)

      early : v < u → (digit frames s v + digit errors s v) % 2 ≡ (entering frames digits u i s v + alone frames u i s v) % 2
      early l = let a = before v s ls l in let b = as-decided l in let d = alone-before frames u i s v l in omega arith

  -- a cleared syndrome, by the digits that enter a vote and the digit itself
  cleared-entering : (a j : ℕ) → cleared c frames errors (u + a) j % 2
      ≡ (entering frames digits u i (c.k + j) (u + a) + parity_sum c (entering frames digits u i) j (u + a)
      + (alone frames u i (c.k + j) (u + a) + parity_sum c (λ s b. alone frames u i s (u + b)) j a)) % 2
  unfolding cleared syndrome
  cleared-entering a j =
      ap₂ (λ x y. ((digit frames (c.k + j) (u + a) + x) % 2 + y) % 2 % 2) (parity-sum c frames j (u + a)) (parity-sum c errors j (u + a))
      ∙ vote-remainders (digit frames (c.k + j) (u + a)) (parity_sum c (digit frames) j (u + a)) (parity_sum c (digit errors) j (u + a)) _
      (parity_sum c (entering frames digits u i) j (u + a)) _ (parity_sum c (λ s b. alone frames u i s (u + b)) j a)
      (received-from frames u i digits (c.k + j) (u + a) (omega arith)) sums
    where
      from-u : parity_sum c (alone frames u i) j (u + a) % 2 ≡ parity_sum c (λ s b. alone frames u i s (u + b)) j a % 2
      from-u = parity-from c (alone frames u i) (λ s b. alone frames u i s (u + b)) j u a (λ s v ls l. ap (λ x. x % 2) (alone-before frames u i s v l)) (λ s b ls l. refl)

      sums : (parity_sum c (digit frames) j (u + a) + parity_sum c (digit errors) j (u + a)) % 2
          ≡ (parity_sum c (entering frames digits u i) j (u + a) + parity_sum c (λ s b. alone frames u i s (u + b)) j a) % 2
      sums =
          ap (λ x. x % 2) (parity-add c (digit frames) (digit errors) j (u + a))
          ∙ parity-same c (λ s v. digit frames s v + digit errors s v) (λ s v. entering frames digits u i s v + alone frames u i s v) j (u + a) (λ s v ls l. both s v ls)
          ∙ ap (λ x. x % 2) (sym (parity-add c (entering frames digits u i) (alone frames u i) j (u + a)))
          ∙ omega (arith, from-u)

  -- of the digit itself, a check adds up the digit itself
  alone-added : (q : ℕ) → q < count c i → check_sum c (check_mask c i q) (λ b s. alone frames u i s (u + b)) % 2 ≡ digit frames i u % 2
  unfolding touched_sum touches
  alone-added q lq =
      check-touched c (check_mask c i q) (λ b s. alone frames u i s (u + b))
      ∙ ap (λ x. x % 2)
      (own-apart (suc c.m) (c.k + c.p) i (λ b s. touches c i q b s * alone frames u i s (u + b)) (omega arith) (omega arith)
      ∙ ap₂ ◌+◌ (sum-none (suc c.m) _ (λ b lb. sum-none (c.k + c.p) _ (λ s ls. none b s))) itself
      ∙ omega arith)
    where
      none : (b s : ℕ) → besides i b s * (touches c i q b s * alone frames u i s (u + b)) ≡ 0
      none b s = go (dec_lt 0 (besides i b s))
        where
          go : Dec (0 < besides i b s) → besides i b s * (touches c i q b s * alone frames u i s (u + b)) ≡ 0
          go (yes l) =
              let z : 1 - besides i b s ≡ 0 = omega arith in
              ap (λ x. besides i b s * (touches c i q b s * x)) (alone-from frames u i s b ∙ ap (λ x. x * digit frames s (u + b)) z ∙ zero-mul _)
              ∙ ap (λ x. besides i b s * x) (mul-zero (touches c i q b s)) ∙ mul-zero (besides i b s)
          go (no n) = let z : besides i b s ≡ 0 = omega arith in ap (λ x. x * (touches c i q b s * alone frames u i s (u + b))) z ∙ zero-mul _

      itself : touches c i q 0 i * alone frames u i i (u + 0) ≡ digit frames i u
      itself =
          ap₂ ◌*◌ (own q lq) (alone-from frames u i i 0 ∙ ap (λ x. (1 - x) * digit frames i (u + 0)) (besides-own i) ∙ one-mul _ ∙ ap (digit frames i) (add-zero u))
          ∙ one-mul _

  -- the check is the vote plus the received digit
  check-vote : (q : ℕ) → q < count c i → check_at c frames errors u i q ≡ (vote c frames digits u i q + digit frames i u) % 2
  unfolding check_at vote check_sum parity_sum
  check-vote q lq =
      sum-mod c.p _ _ (λ j lj. sum-mod (suc c.m) _ _ (λ a la. mul_mod_left (bit (check_mask c i q j) a) _ _ (cleared-entering a j)))
      ∙ ap (λ x. x % 2)
      (sum-cong c.p (λ j. sum-cong (suc c.m) (λ a. mul-add (bit (check_mask c i q j) a) _ _) ∙ sum-add (suc c.m) _ _) ∙ sum-add c.p _ _)
      ∙ omega (arith, alone-added q lq)

  -- ---- the decision
  vote-le : (q : ℕ) → vote c frames digits u i q ≤ 1
  unfolding vote
  vote-le q = omega arith

  module _ (erased : List ℕ) where
    -- the votes for 1 are the voting checks equal to 1 where the received digit is 0 ..
    votes-of-zero : digit frames i u ≡ 0 → votes_for_one c frames erased digits u i ≡ votes c frames erased errors u i
    unfolding votes_for_one votes
    votes-of-zero z =
        sum_same (count c i) _ _
        (λ q lq. let e : vote c frames digits u i q ≡ check_at c frames errors u i q = omega (arith, check-vote q lq, vote-le q) in ap (λ x. voting c erased u i q * x) e)

    -- .. and the other voting checks where it is 1
    votes-of_one : digit frames i u ≡ 1 → votes_for_one c frames erased digits u i + votes c frames erased errors u i ≡ voters c erased u i
    unfolding votes_for_one votes voters
    votes-of_one z =
        sym (sum-add (count c i) (λ q. voting c erased u i q * vote c frames digits u i q) (λ q. voting c erased u i q * check_at c frames errors u i q))
        ∙ sum_same (count c i) _ _
        (λ q lq.
        let e : vote c frames digits u i q + check_at c frames errors u i q ≡ 1 = omega (arith, check-vote q lq, vote-le q) in
        sym (mul-add (voting c erased u i q) _ _) ∙ ap (λ x. voting c erased u i q * x) e ∙ mul-one _)

    -- the digit is the received one plus the error that the first circuit decides
    digit-decided : decide_digit c frames erased digits u i ≡ (digit frames i u + decide c frames erased errors u i) % 2
    unfolding decide
    digit-decided = go (dec_lt 0 (digit frames i u))
      where
        go : Dec (0 < digit frames i u) → decide_digit c frames erased digits u i ≡ (digit frames i u + decide c frames erased errors u i) % 2
        go (yes l) =
            let r = digit-le frames i u in let e = votes-of_one (omega arith) in rw (test-as-number, digit-as-number c frames erased digits u i) (omega arith)
        go (no n) = let e = votes-of-zero (omega arith) in rw (test-as-number, digit-as-number c frames erased digits u i) (omega arith)

-- ---- the streams
module _ (c : Card) (frames erased : List ℕ) where
  pub digits-length : (n : ℕ) → length (decided_digits c frames erased n) ≡ n
  unfolding decided_digits
  digits-length n = grown-length (decide_digits c frames erased) n

  -- what is decided stays
  pub digits-at : (n u : ℕ) → u < n → get_or (decided_digits c frames erased n) u 0 ≡ decide_digits c frames erased (decided_digits c frames erased u) u
  unfolding decided_digits
  digits-at n u l = grown-at (decide_digits c frames erased) n u l

  digit-stays : (n u i : ℕ) → u < n → i < c.k → digit (decided_digits c frames erased n) i u ≡ decide_digit c frames erased (decided_digits c frames erased u) u i
  unfolding digit decide_digits
  digit-stays n u i l li =
      ap (λ x. bit x i) (digits-at n u l) ∙ bit-from_digits c.k _ (λ s ls. decide_digit-lt c frames erased (decided_digits c frames erased u) u s) i li

module _ (c : Card) (G : Guarantees c) (frames erased : List ℕ) where
  -- one frame after the other, the decided digits are the received ones plus the decided errors
  digits_are : (n v i : ℕ) → i < c.k → v < n → digit (decided_digits c frames erased n) i v ≡ (digit frames i v + digit (decided c frames erased n) i v) % 2
  digits_are zero v i li l = absurd (omega arith)
  digits_are (suc n) v i li l =
      digit-stays c frames erased (suc n) v i l li
      ∙ ⊎_elim
      (λ e.
      rw e
      (digit-decided c frames (decided c frames erased n) (decided_digits c frames erased n) n (λ w s ls lw. digits_are n w s ls lw) (decided-none c frames erased n) i li
      (G.orthogonal i li).own erased))
      (λ below. sym (digit-stays c frames erased n v i below li) ∙ digits_are n v i li below ∙ ap (λ x. (digit frames i v + x) % 2) (decided-digit c frames erased n v i below li))
      (last-or-below l)
      ∙ ap (λ x. (digit frames i v + x) % 2) (sym (decided-digit c frames erased (suc n) v i l li))

-- the theorem: for every stream the two circuits hand out the same frames
pub circuits-agree : (c : Card) → Guarantees c → (frames erased : List ℕ) → decoded_by_digits c frames erased ≡ decoded c frames erased
unfolding decoded_by_digits decide_digits corrected
circuits-agree c G frames erased =
    let n = length frames - c.m in
    ext_get_or 0 _ _ (digits-length c frames erased n ∙ sym (decoded-length c frames erased))
    (λ u lu.
    let l : u < n = omega (arith, digits-length c frames erased n) in
    digits-at c frames erased n u l
    ∙ from_digits-same c.k _ _ (λ i li. sym (digit-stays c frames erased n u i l li) ∙ digits_are c G frames erased n u i li l)
    ∙ sym (decoded-at c frames erased u l))
