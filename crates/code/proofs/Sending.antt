-- One turn of a sender: the registers take the information frame of time t in, and the frame that they give is the one that is sent at t.
-- The tail needs no turn of its own: after the information frames there are zeros.
use Prim.Native.Nat.{ℕ, suc, ◌≤◌, ◌<◌}
use mathlib.Core.Path.{◌≡◌, sym, ap, ◌∙◌}
use mathlib.Core.List.{List}
use lib.ListN.{length, get_or}
use Rattle.bits.specs.Digits.{bit}
use Rattle.bits.proofs.Lists.{zeros-after}
use Rattle.code.specs.Code.{digit, with_tail, sent_frame}
use Rattle.code.specs.Guarantees.{Guarantees}
use Rattle.code.specs.Registers.{history_by, frame_by}
use Rattle.code.specs.declared.Card.{Card}
use Rattle.code.proofs.Registers.{HistoryBefore, HistoryWith, history-next, history-later, frame-next}

module _ (c : Card) (G : Guarantees c) (info : List ℕ) (t : ℕ) (h : List ℕ) (f : ℕ) (hf : f ≡ get_or info t 0) (enough : c.k ≤ length h) (H : HistoryBefore c (with_tail c info) t h) where
  frame-digits : (i : ℕ) → i < c.k → bit f i ≡ digit (with_tail c info) i t
  unfolding digit with_tail
  frame-digits i l = ap (λ (x : ℕ). bit x i) (hf ∙ sym (zeros-after info c.m t))

  history-with : HistoryWith c (with_tail c info) t (history_by h c.k f)
  history-with = history-next c G (with_tail c info) t h enough f frame-digits H

  pub turn-history : HistoryBefore c (with_tail c info) (suc t) (history_by h c.k f)
  turn-history = history-later c (with_tail c info) t (history_by h c.k f) history-with

  pub turn-frame : frame_by c.generators (history_by h c.k f) c.k c.p f ≡ sent_frame c (with_tail c info) t
  turn-frame = frame-next c G (with_tail c info) t (history_by h c.k f) f frame-digits history-with
