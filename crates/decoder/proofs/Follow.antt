-- A session follows the rule: what its registers hold before a frame and with it, and what it hands out.
use Prim.Native.Nat.{ℕ, suc, ◌+◌, ◌-◌, ◌≤◌, ◌<◌}
use mathlib.Core.Path.{◌≡◌, refl, sym, ap, ◌∙◌, subst}
use mathlib.Core.List.{List}
use native.Mathlib.Omega.{arith}
use lib.ListN.{length, get_or}
use lib.Count.{ones}
use Rattle.bits.specs.Sums.{sum_below}
use Rattle.bits.specs.Digits.{bit}
use Rattle.bits.proofs.Sums.{sum_same}
use Rattle.bits.proofs.Lists.{zeros-at}
use Rattle.bits.proofs.Held.{held_in, held_out}
use Rattle.bits.proofs.Digits.{bit-of-zero, ones-of-digits}
use Rattle.code.specs.Code.{digit}
use Rattle.code.specs.Guarantees.{Guarantees}
use Rattle.code.specs.declared.Card.{Card}
use Rattle.code.proofs.OwnSizes.{sizes-are}
use Rattle.code.specs.declared.Sizes.{Sizes}
use Rattle.code.proofs.Registers.{HistoryBefore, HistoryWith, history-start, history-later, history-next, history-length}
use Rattle.majority.specs.AsSent.{Correctable}
use Rattle.majority.specs.Rule.{cleared, decide_frame, decided, decoded, figure_by}
use Rattle.majority.proofs.Streams.{decoded-length, decoded-at}
use Rattle.majority.proofs.Theorem.{decoded-as-sent}
use Rattle.receiving.specs.Receive.{sizes_in, place_of, open_of}
use Rattle.receiving.specs.Calls.{Call, taken_frames, taken_erased, session_after, answers_by}
use Rattle.receiving.proofs.Follow.{Follows}
use Rattle.receiving.proofs.Turns.{InTurn, in-turn}
use Rattle.receiving.proofs.Turns as turn
use Rattle.receiving.proofs.ByRule.{from_start, follows-rule}
use Rattle.vote.specs.Voters.{decide_marked}
use Rattle.code.proofs.ErasedDigits.{ErasedAt, erased-start, erased-next, erased-moved}
use Rattle.decoder.specs.Held.{nothing_held, with_syndromes, held_with_frame, errors_in, fed_back, next_held, corrected_by, ones_by}
use Rattle.decoder.specs.Receive.{errors_of, first_holding, first_circuit, link_figure_of}
use Rattle.decoder.specs.Claims.{Claims}
use Rattle.decoder.specs.declared.Held.{Held}
use Rattle.decoder.proofs.Step.{SyndromesAt, syndromes-next, decide-next, corrected-next, fed-next}

-- ---- what is held before the frame of time t, and with it
pub record Before (c : Card) (frames erased : List ℕ) (t : ℕ) (h : Held) : Type 0 where
  pub history-long : c.k ≤ length h.history
  pub history_is : HistoryBefore c frames t h.history
  pub syndromes_are : SyndromesAt c frames erased (t - c.m) t h.syndromes
  pub marks-are : ErasedAt (c.k + c.p) erased (t - c.m) t h.erased.registers h.erased.any

pub record With (c : Card) (frames erased : List ℕ) (t : ℕ) (h : Held) : Type 0 where
  pub history-long : c.k ≤ length h.history
  pub history_is : HistoryWith c frames t h.history
  pub syndromes_are : SyndromesAt c frames erased (t - c.m) (suc t) h.syndromes
  pub marks-are : ErasedAt (c.k + c.p) erased (t - c.m) (suc t) h.erased.registers h.erased.any

module _ (c : Card) (G : Guarantees c) (frames erased : List ℕ) where
  comes-in : (t f e : ℕ) (h : Held) → Before c frames erased t h → f ≡ get_or frames t 0 → e ≡ get_or erased t 0
      → With c frames erased t (first_holding.put_in c h (place_of t c.m) f e)
  unfolding held_with_frame with_syndromes
  comes-in t f e h B ef ee =
      let H = history-next c G frames t h.history B.history-long f (λ i l. digits-at i) B.history_is in
      subst (λ (z : Sizes). With c frames erased t (held_with_frame c.generators h z (place_of t c.m) f e)) (sym (sizes-are c G))
      record {
        history-long = omega (arith, history-length h.history c.k f, B.history-long);
        history_is = H;
        syndromes_are = syndromes-next c G frames erased t (t - c.m) refl _ H f ef h.syndromes B.syndromes_are;
        marks-are = erased-next (c.k + c.p) erased (t - c.m) t h.erased.registers h.erased.any B.marks-are (place_of t c.m) e (omega arith) (omega (arith, G.m_most)) ee;
      }
    where
      digits-at : (i : ℕ) → bit f i ≡ digit frames i t
      digits-at i = unfold digit in ap (λ (x : ℕ). bit x i) ef

  waits : (t : ℕ) (h : Held) → t < c.m → With c frames erased t h → Before c frames erased (suc t) h
  waits t h l W =
      let v : t - c.m ≡ suc t - c.m = omega arith in
      record {
        history-long = W.history-long;
        history_is = history-later c frames t h.history W.history_is;
        syndromes_are = rw v at W.syndromes_are;
        marks-are = rw v at W.marks-are;
      }

  -- where these errors are decided
  module _ (t : ℕ) (h : Held) (l : c.m ≤ t) (W : With c frames erased t h) where
    abbrev u : ℕ
    u = t - c.m

    abbrev errors : ℕ
    errors = decide_frame c frames erased (decided c frames erased u) u

    errors-are : errors_of c h ≡ errors
    unfolding errors_of decide_marked
    errors-are =
        ap (λ (z : Sizes). errors_in c.generators c.counts c.checks h z) (sizes-are c G)
        ∙ decide-next c G frames erased t u refl l h.syndromes W.syndromes_are h.erased.registers h.erased.any W.marks-are

    -- by these sizes and errors it is handed out, and this is held then
    abbrev Handed : Sizes → ℕ → Type 0
    Handed z e = (corrected_by h.history e z.k c.m ≡ get_or (decoded c frames erased) u 0) × Before c frames erased (suc t) (next_held c.generators h z e)

    hands : t < length frames → Handed (sizes_in c) (errors_of c h)
    unfolding next_held fed_back
    hands ln =
        let v : suc u ≡ suc t - c.m = omega arith in
        rw errors-are
        (subst (λ (z : Sizes). Handed z errors) (sym (sizes-are c G)) (
          corrected-next c G frames erased t u refl l h.syndromes W.syndromes_are h.history W.history_is (length frames - c.m) (omega arith)
              ∙ sym (decoded-at c frames erased u (omega arith)),
          record {
            history-long = W.history-long;
            history_is = history-later c frames t h.history W.history_is;
            syndromes_are = rw v at (fed-next c G frames erased t u refl l h.syndromes W.syndromes_are);
            marks-are = rw v at (erased-moved (c.k + c.p) erased u (suc t) h.erased.registers h.erased.any W.marks-are);
          },
        ))

  -- before the first frame no digit is held
  start : Before c frames erased 0 nothing_held
  start =
      record {
        history-long = G.k_most;
        history_is = history-start c frames;
        syndromes_are =
            record {
              long = omega arith;
              at = λ j a hj.
                  ap (λ (x : ℕ). bit x a) (zeros-at 8 j) ∙ bit-of-zero a
                  ∙ sym (held_out (λ v. cleared c frames (decided c frames erased (0 - c.m)) v j) (0 - c.m) 0 a (omega arith));
            };
        marks-are = erased-start (c.k + c.p) erased G.n_most (0 - c.m);
      }

  pub turns : InTurn first_holding decoded c frames erased
  turns =
      record {
        Before = Before c frames erased;
        With = With c frames erased;
        start = start;
        comes-in = comes-in;
        waits = waits;
        hands = λ t h l ln W. hands t h l W ln;
      }

  pub follows : Follows first_circuit c frames erased (answers_by decoded c frames erased)
  follows = in-turn first_holding decoded c frames erased (decoded-length c frames erased) turns

  pub starts : follows.After 0 (open_of first_circuit c)
  unfolding follows
  starts = turn.starts first_holding decoded c frames erased (decoded-length c frames erased) turns

-- ---- what holds of an opened session
module _ (c : Card) (G : Guarantees c) where
  figure-follows : (calls : List Call)
      → link_figure_of (session_after first_circuit (open_of first_circuit c) calls)
      ≡ figure_by c (taken_frames first_circuit (open_of first_circuit c) calls) (taken_erased first_circuit (open_of first_circuit c) calls)
  unfolding link_figure_of ones_by figure_by follows in-turn turns
  figure-follows calls =
      let frames = taken_frames first_circuit (open_of first_circuit c) calls in
      let erased = taken_erased first_circuit (open_of first_circuit c) calls in
      let t = length frames in
      let u = t - c.m in
      let errors = decided c frames erased u in
      let r : turn.Before first_holding decoded c frames erased (decoded-length c frames erased) (turns c G frames erased) t (session_after first_circuit (open_of first_circuit c) calls) =
      (from_start first_circuit decoded c G (open_of first_circuit c) (decoded-length c) (follows c G) (starts c G) calls).last in
      let y = r.held.syndromes in
      let p-most : (sizes_in c).p ≡ c.p = omega (arith, G.n_most) in
      ap link_figure_of r.session_is
      ∙ ap (λ (n : ℕ). sum_below n (λ j. ones (get_or y j 0))) p-most
      ∙ sum_same c.p _ _
      (λ j l.
      ones-of-digits (t - u) (get_or y j 0) (λ a w. r.held-is.syndromes_are.at j a l ∙ held_out (λ v. cleared c frames errors v j) u t a (omega arith))
      ∙ sum_same (t - u) _ _ (λ a w. r.held-is.syndromes_are.at j a l ∙ held_in (λ v. cleared c frames errors v j) u t a (omega arith)))

  pub claims-of : Claims c (open_of first_circuit c)
  claims-of =
      record {
        by_rule = follows-rule first_circuit decoded c G (open_of first_circuit c) (decoded-length c) (follows c G) (starts c G) Correctable (decoded-as-sent c G);
        figure_by_rule = figure-follows;
      }
