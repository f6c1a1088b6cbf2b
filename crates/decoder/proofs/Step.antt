-- One frame: the registers hold the rule's cleared syndromes before it, with it, and once its errors are fed back.
-- The whole list of received frames is fixed; the frame of time t comes in, and that of time u = t - m, if there is one, is decided.
use Prim.Native.Nat.{ℕ, suc, ◌+◌, ◌-◌, ◌*◌, ◌%◌, ◌≤◌, ◌<◌}
use mathlib.Core.Path.{◌≡◌, sym, ap, ap₂, ◌∙◌}
use mathlib.Core.Logic.{⊎_elim}
use mathlib.Core.List.{List, [], ◌∷◌, ◌++◌}
use native.Mathlib.Nat.{add-mod-mod}
use native.Mathlib.Omega.{arith}
use lib.ListN.{length, get_or}
use lib.Bits.{bit_xor}
use Rattle.bits.specs.Sums.{sum_below, grown}
use Rattle.bits.specs.Digits.{bit, shift_up}
use Rattle.bits.proofs.Cases.{le-or-lt}
use Rattle.bits.proofs.Lists.{up_to-length, up_to-at}
use Rattle.bits.proofs.Back.{back_in}
use Rattle.bits.proofs.Held.{held, held_in, held_out, put_in}
use Rattle.bits.proofs.Digits.{add_none, bit-suc, bit-xor, from_digits-same}
use Rattle.code.specs.Code.{generator, digit}
use Rattle.code.specs.Guarantees.{Guarantees}
use Rattle.code.specs.Registers.{generator_sum, syndromes_by, feedback_by, with_digits, with_words, moved_on}
use Rattle.code.specs.declared.Card.{Card}
use Rattle.code.proofs.Registers.{HistoryWith, parity-next, syndrome-bit}
use Rattle.code.proofs.GeneratorSums.{sum-bit, sum-beyond, feedback-at}
use Rattle.code.proofs.StreamRegisters.{words-length, words-at, moved_length, moved_at}
use Rattle.majority.specs.Rule.{syndrome, cleared, decide_frame, decided, corrected}
use Rattle.majority.proofs.Streams.{decided-length, decided-at}
use Rattle.majority.proofs.Feedback.{syndrome-lt, cleared-new, cleared-fed}
use Rattle.receiving.specs.Receive.{place_of}
use Rattle.vote.specs.Voters.{voters_by, decide_voters}
use Rattle.code.proofs.ErasedDigits.{ErasedAt}
use Rattle.vote.proofs.Voting.{decide-is}
use Rattle.vote.proofs.WhoVotes.{voters-are, counts-are}
use Rattle.decoder.specs.Held.{corrected_digit, corrected_by}

-- the registers hold the syndromes of times u to n - 1, with the errors decided before u taken out
pub record SyndromesAt (c : Card) (frames erased : List ℕ) (u n : ℕ) (y : List ℕ) : Type 0 where
  pub long : 8 ≤ length y
  pub at : (j a : ℕ) → j < c.p → bit (get_or y j 0) a ≡ held (λ v. cleared c frames (decided c frames erased u) v j) u n a

module _ (c : Card) (G : Guarantees c) (frames erased : List ℕ) (t u : ℕ) (hu : u ≡ t - c.m) where
  -- ---- the frame comes in
  module _ (h : List ℕ) (H : HistoryWith c frames t h) (f : ℕ) (hf : f ≡ get_or frames t 0) where
    syndrome-next : (j : ℕ) → j < c.p → bit (syndromes_by c.generators h c.k c.p f) j ≡ syndrome c frames t j
    unfolding syndrome digit
    syndrome-next j hj = syndrome-bit c G h f j hj ∙ ap₂ (λ (x y : ℕ). (bit x (c.k + j) + y) % 2) hf (parity-next c G frames t h H j hj)

    pub syndromes-next : (y : List ℕ) → SyndromesAt c frames erased u t y
        → SyndromesAt c frames erased u (suc t) (with_digits y (syndromes_by c.generators h c.k c.p f) (place_of t c.m))
    unfolding with_digits
    syndromes-next y Y =
        record {
          long = omega (arith, up_to-length (length y) put, Y.long);
          at = λ j a hj.
              let new = cleared-new c frames errors t j (omega (arith, decided-length c frames erased u)) in
              ap (λ (x : ℕ). bit x a) (up_to-at (length y) put j (omega (arith, G.n_most, Y.long)))
              ∙ put_in (λ v. cleared c frames errors v j) u t (get_or y j 0) (λ b. Y.at j b hj) (bit x j) (place_of t c.m)
              (syndrome-next j hj ∙ sym new) (rw (syndrome-next j hj) (syndrome-lt c frames t j)) (omega arith) (omega (arith, G.m_most)) a;
        }
      where
        errors : List ℕ
        errors = decided c frames erased u

        x : ℕ
        x = syndromes_by c.generators h c.k c.p f

        put : ℕ → ℕ
        put s = bit_xor (get_or y s 0) (shift_up (bit x s) (place_of t c.m))

  -- ---- the frame of time u is decided
  module _ (hm : c.m ≤ t) (y : List ℕ) (Y : SyndromesAt c frames erased u (suc t) y) where
    pub decide-next : (marks : List ℕ) (any : ℕ) → ErasedAt (c.k + c.p) erased u (suc t) marks any
        → decide_voters (voters_by c.generators c.counts c.checks marks any c.k c.p) c.checks y c.k c.p
        ≡ decide_frame c frames erased (decided c frames erased u) u
    decide-next marks any E =
        decide-is c G frames errors u y
        (λ j a hj l. Y.at j a hj ∙ held_in (λ v. cleared c frames errors v j) u (suc t) a (omega arith))
        (λ j a hj l. Y.at j a hj ∙ held_out (λ v. cleared c frames errors v j) u (suc t) a (omega arith))
        erased _ _ Y.long (voters-are c G erased u marks any at-u) (counts-are c G erased u marks any at-u)
      where
        errors : List ℕ
        errors = decided c frames erased u

        at-u : ErasedAt (c.k + c.p) erased u (suc (u + c.m)) marks any
        at-u = let v : u + c.m ≡ t = omega arith in rw v E

    -- the frame handed out is the rule's, whatever is decided later
    pub corrected-next : (h : List ℕ) → HistoryWith c frames t h → (n : ℕ) → u < n
        → corrected_by h (decide_frame c frames erased (decided c frames erased u) u) c.k c.m ≡ corrected c frames (decided c frames erased n) u
    unfolding corrected_by corrected_digit corrected digit
    corrected-next h H n l =
        from_digits-same c.k _ _
        (λ i li.
        ap₂ (λ (x z : ℕ). (x + z) % 2)
        (H i c.m li (omega (arith, G.m_most)) ∙ back_in (digit frames i) t c.m hm ∙ ap (digit frames i) (sym hu))
        (ap (λ (x : ℕ). bit x i) (sym (decided-at c frames erased n u l))))

    -- the decided errors e taken out, and the registers moved on: register j
    module _ (j : ℕ) (hj : j < c.p) (e : ℕ) where
      abbrev fed : List ℕ
      fed = with_words y (feedback_by c.generators c.k c.p e)

      fed-bit : (a : ℕ) → bit (get_or (moved_on fed) j 0) a
          ≡ (held (λ v. cleared c frames (decided c frames erased u) v j) u (suc t) (suc a) + sum_below c.k (λ i. generator c i j (suc a) * bit e i)) % 2
      fed-bit a =
          let long : j < length y = omega (arith, G.n_most, Y.long) in
          let x = get_or y j 0 in
          ap (λ (w : ℕ). bit w a) (moved_at fed j (omega (arith, words-length y (feedback_by c.generators c.k c.p e))))
          ∙ sym (bit-suc (get_or fed j 0) a)
          ∙ ap (λ (w : ℕ). bit w (suc a))
          (words-at y (feedback_by c.generators c.k c.p e) j long ∙ ap (bit_xor x) (feedback-at c.generators c.k c.p e j (omega (arith, G.n_most))))
          ∙ bit-xor x (generator_sum c.generators c.k e j) (suc a)
          ∙ ap₂ (λ (v w : ℕ). (v + w) % 2) (Y.at j (suc a) hj) (sum-bit c G e j (suc a) hj)
          ∙ add-mod-mod (held (λ v. cleared c frames (decided c frames erased u) v j) u (suc t) (suc a)) (sum_below c.k (λ i. generator c i j (suc a) * bit e i)) 2

    pub fed-next :
        let e = decide_frame c frames erased (decided c frames erased u) u in
        SyndromesAt c frames erased (suc u) (suc t) (moved_on (with_words y (feedback_by c.generators c.k c.p e)))
    unfolding decided grown
    fed-next =
        record {
          long = omega (arith, moved_length (with_words y (feedback_by c.generators c.k c.p e)), words-length y (feedback_by c.generators c.k c.p e), Y.long);
          at = λ j a hj.
              let z = sum_below c.k (λ i. generator c i j (suc a) * bit e i) in
              fed-bit j hj e a
              ∙ ⊎_elim
              (λ (l : t < suc u + a).
              add_none (held_out (λ v. cleared c frames errors v j) u (suc t) (suc a) (omega arith)) (sum-beyond c G e j (suc a) (omega arith)) (omega arith)
              ∙ sym (held_out (λ v. cleared c frames (errors ++ (e ∷ [])) v j) (suc u) (suc t) a l))
              (λ (l : suc u + a < suc t).
              let q : u + suc a ≡ suc u + a = omega arith in
              let r : suc u + a - length errors ≡ suc a = omega (arith, decided-length c frames erased u) in
              ap (λ (v : ℕ). (v + z) % 2) (held_in (λ v. cleared c frames errors v j) u (suc t) (suc a) (omega arith) ∙ ap (λ (v : ℕ). cleared c frames errors v j) q)
              ∙ ap (λ (b : ℕ). (cleared c frames errors (suc u + a) j + sum_below c.k (λ i. generator c i j b * bit e i)) % 2) (sym r)
              ∙ sym (cleared-fed errors e (suc u + a) (omega (arith, decided-length c frames erased u)) c j (omega (arith, decided-length c frames erased u)) frames)
              ∙ sym (held_in (λ v. cleared c frames (errors ++ (e ∷ [])) v j) (suc u) (suc t) a l))
              (le-or-lt (suc t) (suc u + a));
        }
      where
        errors : List ℕ
        errors = decided c frames erased u

        e : ℕ
        e = decide_frame c frames erased errors u
