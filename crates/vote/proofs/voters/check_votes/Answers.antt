use Prim.Native.Nat.{ℕ, ◌<◌}
use mathlib.Core.Path.{◌≡◌, refl}
use borrow.Author.Tests.{eq-eqb, ne_eqb}
use Rattle.orthogonal.specs.Pass.{information_streams, parity_streams}
use mathlib.Core.Logic.{⊎_elim}
use native.Mathlib.Omega.{arith}
use lib.Bits.{or_add_and, and_le_l, and_le_r}
use Rattle.bits.proofs.Cases.{same_or_not}
use Rattle.orthogonal.proofs.Clashes.{Clear, none-clear, clear_none}
use Rattle.vote.proofs.WhoVotes.{votes-then, votes-not}
use Rattle.vote.proofs.voters.check_votes.Goals as goal

pub loop-s-init : goal.loop-s-init
loop-s-init c = (λ z r l. absurd (omega arith), λ h. refl)

pub loop-s-preserved : goal.loop-s-preserved
loop-s-preserved c =
    let l = c.loop-s in
    let both = c.clash-met.result in
    let whole = or_add_and l.met both in
    let left = and_le_l l.met both in
    let right = and_le_r l.met both in (
      λ z r h.
          ⊎_elim (λ (e : r ≡ l.s). rw e (none-clear _ _ _ _ _ _ c.touched-touches.ensures c.word.ensures c.clash-met.ensures (omega arith)))
          (λ other. l.invariant.0 (omega arith) r (omega arith)) (same_or_not r l.s),
      λ all.
          let here = clear_none _ _ _ _ _ _ c.touched-touches.ensures c.word.ensures c.clash-met.ensures (omega arith) (all l.s (omega arith)) in
          let before = l.invariant.1 (λ r h. all r (omega arith)) in
          omega arith,
    )

pub returns : goal.returns
returns c =
    let a = c.args in
    let all : c.loop-s.met ≡ 0 → (s : ℕ) → s < 8 → Clear a.generators.now c.masks_from-masks.result.now a.erased.now (information_streams a.sizes.k) (parity_streams a.sizes.k a.sizes.p) a.i s =
    λ z s h. c.loop-s.invariant.0 z s (omega arith) in
    ⊎_elim
    (λ z. rw (eq-eqb _ 0 z) (votes-then a.generators.now a.checks.now a.erased.now a.sizes.k a.sizes.p a.i a.q c.masks_from-masks.ensures (all z)))
    (λ n. rw (ne_eqb _ 0 n)
    (votes-not a.generators.now a.checks.now a.erased.now a.sizes.k a.sizes.p a.i a.q c.masks_from-masks.ensures
    (λ clear. n (c.loop-s.invariant.1 (λ s h. clear s (omega arith))))))
    (same_or_not c.loop-s.met 0)
