-- The burst sender by history: where it starts, and a frame of it. And a turn of the loops of every sender.
use Prim.Native.Nat.{ℕ, ◌+◌, ◌≤◌, ◌<◌}
use mathlib.Core.Path.{◌≡◌, refl, ap, ◌∙◌}
use mathlib.Core.List.{List}
use native.Mathlib.Numerals.{add-one}
use native.Mathlib.Omega.{arith}
use lib.ListN.{length, get_or, drop, set, replicate, length-append, length-drop}
use Rattle.bits.specs.Sums.{up_to}
use Rattle.bits.proofs.Lists.{up_to-length, part_step}
use Rattle.code.specs.Code.{with_tail, sent_frame}
use Rattle.code.specs.Registers.{history_by, frame_by}
use Rattle.code.specs.Guarantees.{Guarantees}
use Rattle.code.specs.declared.Card.{Card}
use Rattle.code.proofs.Registers.{history-start}
use Rattle.code.proofs.Sending.{turn-history, turn-frame}
use Rattle.burst.specs.Sent.{ReadyBy, SentUpTo}

-- before the first frame
pub ready-first : (c : Card) (input : List ℕ) → ReadyBy c input 0 c.generators c.k c.p (replicate 4 0)
ready-first c input = record { generators_are = refl; k_is = refl; p_is = refl; digit_at = history-start c (with_tail c input) }

-- the frame that is sent for the information frame f, zero in the tail
pub ready-next : (c : Card) → Guarantees c → (input : List ℕ) (t : ℕ) {f x k p : ℕ} {generators history next : List ℕ} → length history ≡ 4
    → f ≡ get_or input t 0 → next ≡ history_by history k f → x ≡ frame_by generators next k p f
    → ReadyBy c input t generators k p history → (x ≡ sent_frame c (with_tail c input) t) × ReadyBy c input (t + 1) generators k p next
ready-next c G input t {f} {x} {k} {p} {generators} {history} {next} four hf hn hx R =
    let enough : c.k ≤ length history = omega (arith, G.k_most) in
    let en : next ≡ history_by history c.k f = rw R.k_is at hn in
    let ex : x ≡ frame_by c.generators next c.k c.p f = rw (R.generators_are, R.k_is, R.p_is) at hx in (
      ex ∙ ap (λ h. frame_by c.generators h c.k c.p f) en ∙ turn-frame c G input t history f hf enough R.digit_at,
      record {
        generators_are = R.generators_are;
        k_is = R.k_is;
        p_is = R.p_is;
        digit_at = rw (en, add-one) (turn-history c G input t history f hf enough R.digit_at);
      },
    )

-- a frame more in the output
pub sent-more : (c : Card) (input output₀ : List ℕ) (t x : ℕ) {output : List ℕ} → t < length output → x ≡ sent_frame c (with_tail c input) t
    → SentUpTo c input output₀ t output → SentUpTo c input output₀ (t + 1) (set output t x)
sent-more c input output₀ t x {output} l e S =
    let f = sent_frame c (with_tail c input) in
    let within : t < length output₀ = omega (arith, ap length S, length-append (up_to t f) (drop t output₀), up_to-length t f, length-drop t output₀) in
    part_step f output₀ t output x within S e
