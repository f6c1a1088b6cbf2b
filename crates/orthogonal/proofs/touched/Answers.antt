-- By the kind of the stream (`WordCode`), for the streams that there are words for.
use Prim.Native.Nat.{ℕ, ◌-◌, min}
use mathlib.Core.Path.{◌≡◌, sym, ap, ◌∙◌}
use mathlib.Core.List.{List}
use native.Mathlib.Omega.{arith}
use Rattle.bits.specs.Digits.{bit}
use Rattle.bits.proofs.Digits.{bit-of-zero}
use Rattle.orthogonal.specs.Pass.{Touched, word_code, information_streams, parity_streams, first_masks}
use Rattle.orthogonal.proofs.WordCode.{touches-information, touches-parity, touches-beyond}
use Rattle.orthogonal.proofs.touched.Goals as goal

for-streams : {generators : List ℕ} {streams parities s errors : ℕ} (masks : List ℕ) (k p : ℕ) → streams ≡ information_streams k → parities ≡ min p (8 - streams)
    → Touched (word_code generators streams parities) (first_masks parities masks) s errors
    → Touched (word_code generators (information_streams k) (parity_streams k p)) (first_masks (parity_streams k p) masks) s errors
for-streams masks k p e q T = rw (q, e) at T

pub returns-then-s-streams : goal.returns-then-s-streams
returns-then-s-streams c =
    let a = c.args in
    for-streams a.masks.now a.k a.p c.min-streams.ensures c.min-parities.ensures
    (record {
      touches_are = λ b l.
          touches-information a.generators.now a.masks.now c.min-streams.result c.min-parities.result b a.s c.if-s-streams.true (c.information_errors.ensures b l);
    })

pub returns-then-s-streams-2 : goal.returns-then-s-streams-2
returns-then-s-streams-2 c =
    let a = c.args in
    for-streams a.masks.now a.k a.p c.min-streams.ensures c.min-parities.ensures
    (record {
      touches_are = λ b l.
          ap (λ x. bit x b) c.word.ensures
          ∙ touches-parity a.generators.now a.masks.now c.min-streams.result c.min-parities.result b a.s c.if-s-streams.false (omega arith);
    })

pub returns-else-s-streams-2 : goal.returns-else-s-streams-2
returns-else-s-streams-2 c =
    let a = c.args in
    for-streams a.masks.now a.k a.p c.min-streams.ensures c.min-parities.ensures
    (record {
      touches_are = λ b l.
          bit-of-zero b
          ∙ sym (touches-beyond a.generators.now a.masks.now c.min-streams.result c.min-parities.result b a.s (omega arith));
    })
