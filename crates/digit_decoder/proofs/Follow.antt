-- A session follows the second rule: what it holds before a frame and with it, and what it hands out; and it answers as the first circuit's does.
use Prim.Native.Nat.{ℕ, suc, ◌+◌, ◌-◌, ◌≤◌, ◌<◌, min}
use mathlib.Core.Path.{◌≡◌, refl, sym, ap, ◌∙◌}
use mathlib.Core.List.{List, ◌++◌, map}
use native.Mathlib.Omega.{arith}
use lib.ListN.{length, get_or, replicate}
use Rattle.bits.specs.Digits.{bit}
use Rattle.bits.proofs.Digits.{bit-of-zero}
use Rattle.bits.proofs.Lists.{zeros-at}
use Rattle.code.specs.Code.{digit}
use Rattle.code.specs.Guarantees.{Guarantees}
use Rattle.code.specs.declared.Card.{Card}
use Rattle.code.proofs.OwnSizes.{own, sizes-are}
use Rattle.code.proofs.StreamRegisters as registers
use Rattle.code.proofs.StreamRegisters.{DigitsAt}
use Rattle.majority.specs.AsSent.{Correctable}
use Rattle.majority.specs.Rule.{decoded}
use Rattle.majority.specs.SecondCircuit.{decide_digits, decided_digits, decoded_by_digits}
use Rattle.majority.proofs.SecondCircuit.{digits-length, digits-at, circuits-agree}
use Rattle.majority.proofs.Theorem.{decoded-as-sent}
use Rattle.receiving.specs.Answers.{waiting, frame}
use Rattle.receiving.specs.Receive.{place_of, open_of}
use Rattle.receiving.specs.Calls.{Call, taken_frames, taken_erased, answers, answers_by}
use Rattle.receiving.proofs.Follow.{Follows, agree}
use Rattle.receiving.proofs.Turns.{InTurn, in-turn}
use Rattle.receiving.proofs.Turns as turn
use Rattle.receiving.proofs.ByRule.{follows-rule}
use Rattle.code.proofs.ErasedDigits.{ErasedAt, erased-start, erased-next, erased-moved}
use Rattle.vote.proofs.WhoVotes.{voters-are}
use Rattle.decoder.specs.Receive.{first_circuit}
use Rattle.decoder.proofs.Follow as first
use Rattle.digit_decoder.specs.Held.{nothing_held, held_with_frame, decided_in, next_held}
use Rattle.digit_decoder.specs.Receive.{frame_of, second_holding, second_circuit}
use Rattle.digit_decoder.specs.Claims.{Claims}
use Rattle.digit_decoder.specs.declared.Held.{Held}
use Rattle.digit_decoder.proofs.Step.{DecidedAt, decided-start, decided-length, decide-is, decided-next}

-- what is held of the frames of times u to t - 1, where that of time u is decided next: their digits and which of those are erased, and the digits decided
-- before u
pub record HeldAt (c : Card) (frames erased : List ℕ) (u t : ℕ) (h : Held) : Type 0 where
  pub digits_long : c.k + c.p ≤ length h.digits
  pub decided-long : c.k ≤ length h.decided
  pub digits_are : DigitsAt (c.k + c.p) frames u t h.digits
  pub decided-are : DecidedAt c (decided_digits c frames erased u) u h.decided
  pub erased-are : ErasedAt (c.k + c.p) erased u t h.erased.registers h.erased.any

module _ (c : Card) (G : Guarantees c) (frames erased : List ℕ) where
  -- ---- what is held, with a frame more, and for the next one
  put : (u t place f e : ℕ) (h : Held) → HeldAt c frames erased u t h → u + place ≡ t → place < 32 → f ≡ get_or frames t 0 → e ≡ get_or erased t 0
      → HeldAt c frames erased u (suc t) (held_with_frame h place f e)
  unfolding held_with_frame
  put u t place f e h H at lp ef ee =
      record {
        digits_long = omega (arith, registers.digits-length h.digits f place, H.digits_long);
        decided-long = H.decided-long;
        digits_are = registers.digits-next (c.k + c.p) frames u t h.digits H.digits_long H.digits_are place f at lp ef;
        decided-are = H.decided-are;
        erased-are = erased-next (c.k + c.p) erased u t h.erased.registers h.erased.any H.erased-are place e at lp ee;
      }

  decides : (u : ℕ) (h : Held) → HeldAt c frames erased u (suc (u + c.m)) h
      → decided_in c.generators c.counts c.checks h (own c) ≡ decide_digits c frames erased (decided_digits c frames erased u) u
  unfolding decided_in
  decides u h H =
      decide-is c G frames (decided_digits c frames erased u) (u + c.m) u refl h.digits h.decided H.digits_are H.decided-are erased _
      (voters-are c G erased u h.erased.registers h.erased.any H.erased-are)

  moves : (u t f : ℕ) (h : Held) → HeldAt c frames erased u t h → f ≡ decide_digits c frames erased (decided_digits c frames erased u) u
      → HeldAt c frames erased (suc u) t (next_held h f)
  unfolding next_held
  moves u t f h H ef =
      record {
        digits_long = omega (arith, registers.moved_length h.digits, H.digits_long);
        decided-long = omega (arith, decided-length h.decided f, H.decided-long);
        digits_are = registers.digits-moved (c.k + c.p) frames u t h.digits H.digits_long H.digits_are;
        decided-are = decided-next c G frames erased u f h.decided H.decided-long ef H.decided-are;
        erased-are = erased-moved (c.k + c.p) erased u t h.erased.registers h.erased.any H.erased-are;
      }

  -- ---- what is held before the frame of time t, and with it
  handed-length : length (decoded_by_digits c frames erased) ≡ length frames - c.m
  unfolding decoded_by_digits
  handed-length = digits-length c frames erased (length frames - c.m)

  -- a frame handed out is that of the rule, whatever is decided later
  handed-at : (u : ℕ) → u < length frames - c.m → get_or (decoded_by_digits c frames erased) u 0 ≡ decide_digits c frames erased (decided_digits c frames erased u) u
  unfolding decoded_by_digits
  handed-at u l = digits-at c frames erased (length frames - c.m) u l

  abbrev Before : ℕ → Held → Type 0
  Before t h = HeldAt c frames erased (t - c.m) t h

  abbrev With : ℕ → Held → Type 0
  With t h = HeldAt c frames erased (t - c.m) (suc t) h

  waits : (t : ℕ) (h : Held) → t < c.m → With t h → Before (suc t) h
  waits t h l W = let v : t - c.m ≡ suc t - c.m = omega arith in rw v at W

  hands : (t : ℕ) (h : Held) → c.m ≤ t → t < length frames → With t h
      → (second_holding.handed_out c h ≡ get_or (decoded_by_digits c frames erased) (t - c.m) 0) × Before (suc t) (second_holding.moved_on c h)
  unfolding frame_of
  hands t h l ln W =
      let u = t - c.m in
      let v : suc u ≡ suc t - c.m = omega arith in
      let w : u + c.m ≡ t = omega arith in
      let d : frame_of c h ≡ decide_digits c frames erased (decided_digits c frames erased u) u =
      ap (decided_in c.generators c.counts c.checks h) (sizes-are c G) ∙ decides u h (rw w W) in
      (d ∙ sym (handed-at u (omega arith)), rw v at (moves u (suc t) (frame_of c h) h W d))

  -- before the first frame no digit is held
  nothing : (u : ℕ) → u ≡ 0 → HeldAt c frames erased u 0 nothing_held
  nothing u z =
      record {
        digits_long = G.n_most;
        decided-long = G.k_most;
        digits_are = registers.digits-start (c.k + c.p) frames u;
        decided-are = λ i a li. ap (λ (x : ℕ). bit x a) (zeros-at 4 i) ∙ bit-of-zero a ∙ sym (decided-start (digit (decided_digits c frames erased u) i) u a z);
        erased-are = erased-start (c.k + c.p) erased G.n_most u;
      }

  turns : InTurn second_holding decoded_by_digits c frames erased
  turns =
      record {
        Before = Before;
        With = With;
        start = nothing (0 - c.m) (omega arith);
        comes-in = λ t f e h B ef ee. put (t - c.m) t (place_of t c.m) f e h B (omega arith) (omega (arith, G.m_most)) ef ee;
        waits = waits;
        hands = hands;
      }

  pub follows : Follows second_circuit c frames erased (answers_by decoded_by_digits c frames erased)
  follows = in-turn second_holding decoded_by_digits c frames erased handed-length turns

  pub starts : follows.After 0 (open_of second_circuit c)
  unfolding follows
  starts = turn.starts second_holding decoded_by_digits c frames erased handed-length turns

-- ---- what holds of an opened session
same : (c : Card) → Guarantees c → (frames erased : List ℕ) → answers_by decoded_by_digits c frames erased ≡ answers_by decoded c frames erased
unfolding answers_by
same c G frames erased = ap (λ (l : List ℕ). replicate (min (length frames) c.m) waiting ++ map frame l) (circuits-agree c G frames erased)

-- call by call the answers of the first circuit's session
agreed : (c : Card) → Guarantees c → (calls : List Call) → answers second_circuit (open_of second_circuit c) calls ≡ answers first_circuit (open_of first_circuit c) calls
agreed c G calls =
    let frames = taken_frames second_circuit (open_of second_circuit c) calls in
    let erased = taken_erased second_circuit (open_of second_circuit c) calls in
    agree second_circuit first_circuit c G frames erased (answers_by decoded_by_digits c frames erased) (answers_by decoded c frames erased) (same c G frames erased)
    (follows c G frames erased) (first.follows c G frames erased) calls 0 (open_of second_circuit c) (open_of first_circuit c) (starts c G frames erased)
    (first.starts c G frames erased) refl refl

pub claims-of : (c : Card) → Guarantees c → Claims c (open_of second_circuit c)
claims-of c G =
    record {
      by_rule = follows-rule second_circuit decoded_by_digits c G (open_of second_circuit c) (handed-length c G) (follows c G) (starts c G) Correctable
          (λ info frames erased small whole few. circuits-agree c G frames erased ∙ decoded-as-sent c G info frames erased small whole few);
      answers_agree = λ calls. let h = agreed c G calls in cc;
    }
