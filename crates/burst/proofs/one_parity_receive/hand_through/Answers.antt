use Prim.Native.Nat.{◌+◌, ◌-◌}
use mathlib.Core.Path.{◌≡◌, sym, ◌∙◌}
use native.Mathlib.Omega.{arith}
use lib.ListN.{length}
use Rattle.burst.proofs.OneParityReceiving.{in_table, word-through}
use Rattle.burst.proofs.one_parity_receive.hand_through.Goals as goal

pub taken_in-word-requires : goal.taken_in-word-requires
taken_in-word-requires c = in_table _ _ c.requires.sizes.0 (c.requires.within (c.loop-u.u + c.args.m) (omega arith))

pub loop-u-preserved : goal.loop-u-preserved
loop-u-preserved c = λ card output₀ tables ek em same handing.
    let l = c.loop-u in
    word-through card _ tables _ (rw ek at c.requires.within) l.u _ l.word output₀ (omega arith) (omega arith) (rw em at c.taken_in-word.ensures)
    (rw em at (sym c.syndromes.ensures ∙ c.if-syndromes-ne0.false)) (rw ek at c.corrected.ensures) (l.invariant card output₀ tables ek em same handing)

pub returns-then-syndromes-ne0-clause-through : goal.returns-then-syndromes-ne0-clause-through
returns-then-syndromes-ne0-clause-through c = λ card output₀ tables ek em same handing.
    let l = c.loop-u in
    (l.word, λ more. rw em at c.taken_in-word.ensures, l.invariant card output₀ tables ek em same handing)

pub returns-clause-through : goal.returns-clause-through
returns-clause-through c = λ card output₀ tables ek em same handing.
    let l = c.loop-u in
    let e : l.u ≡ length c.args.input.now - c.args.m = omega arith in
    (l.word, λ more. absurd (omega arith), rw e at (l.invariant card output₀ tables ek em same handing))
