use native.Mathlib.Omega.{arith}
use mathlib.Core.Path.{sym}
use lib.ListN.{get_or-eq_default}
use Rattle.burst.proofs.Sending.{sent-more}
use Rattle.burst.proofs.sender.send_tail.Goals as goal

pub loop-at-init : goal.loop-at-init
loop-at-init g c = λ card input output₀ G e R S. (R, S)

pub loop-at-preserved : goal.loop-at-preserved
loop-at-preserved g c = λ card input output₀ G e R S.
    let l = c.loop-at in
    let sent = l.invariant card input output₀ G e R S in
    let next = c.frame.ensures card input l.at G (sym (get_or-eq_default input 0 (omega (arith, e)))) sent.0 in
    (next.1, sent-more card input output₀ l.at c.frame.result (omega arith) next.0 sent.1)
