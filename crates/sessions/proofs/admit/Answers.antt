use mathlib.Core.Path.{sym, subst}
use Prim.Native.Nat.{ℕ, ◌<◌}
use Rattle.sessions.proofs.Running.{run-full, run_short}
use Rattle.sessions.proofs.admit.Goals as goal

pub returns-then-calls-gt-MOST_FRAMES-clause-err : goal.returns-then-calls-gt-MOST_FRAMES-clause-err
returns-then-calls-gt-MOST_FRAMES-clause-err c = λ frames output e. run-full c.args.calls frames output c.if-calls-gt-MOST_FRAMES.true

pub returns-then-room-calls-clause-err : goal.returns-then-room-calls-clause-err
returns-then-room-calls-clause-err c =
    λ frames output e. run_short c.args.calls frames output c.if-calls-gt-MOST_FRAMES.false (subst (λ (n : ℕ). n < c.args.calls) (sym e) c.if-room-calls.true)
