-- Each way out of the run by the test that led to it.
use mathlib.Core.Path.{refl, sym, ap, ◌∙◌}
use native.Mathlib.Omega.{arith}
use Rattle.std.proofs.Common.{rules}
use Rattle.std.proofs.lemmas.Result.{err_from_is_err_and}
use Rattle.card.specs.Outcome.{outcome_of}
use Rattle.outcomes.proofs.Outcomes.{refused-is}
use Rattle.sessions.specs.Receiving.{frames_of, session_receive_of}
use Rattle.sessions.proofs.Receiving.{frames-most, on-session}
use Rattle.sessions.proofs.Running.{run-given, under-refused}
use Rattle.sessions.proofs.receive.run.Goals as goal

pub returns-in_err-opened-clause-told : goal.returns-in_err-opened-clause-told
unfolding session_receive_of
returns-in_err-opened-clause-told c =
    let a = c.args in
    let opened = c.open-opened.ensures in
    let p = err_from_is_err_and c.from_residual.result c.from_residual.ensures.1 in
    rw (p.1, p.2) (refused-is _ a.output.now refl ∙ under-refused _ a.output.now (sym opened.verdict_is ∙ ap outcome_of c.in_err-opened.was))

pub returns-in_err-admit-clause-told : goal.returns-in_err-admit-clause-told
returns-in_err-admit-clause-told c =
    let a = c.args in
    let s = c.open-opened.result.session in
    let opened = c.open-opened.ensures in
    let p = err_from_is_err_and c.from_residual-in_err-admit.result c.from_residual-in_err-admit.ensures.1 in
    let refused = c.in_err-admit.ensures.err (frames_of s a.input.now) a.output.now refl in
    rw (p.1, p.2)
    (refused-is _ a.output.now refl
    ∙ on-session a.card.now a.input.now a.output.now s opened.session_is (sym opened.verdict_is ∙ ap outcome_of c.in_ok-opened.was) (sym refused))

pub returns-clause-few : goal.returns-clause-few
returns-clause-few c =
    let s = c.open-opened.result.session in
    omega (arith, c.receive_frames.ensures.at_is, c.in_ok-admit.ensures.ok, frames-most s.card.number c.args.input.now s)

pub returns-clause-told : goal.returns-clause-told
returns-clause-told c =
    let a = c.args in
    let s = c.open-opened.result.session in
    let opened = c.open-opened.ensures in
    let front = c.new-frames.ensures.front in
    let fits = c.in_ok-admit.ensures.ok in
    let given = run-given _ _ a.output.now fits.0 c.receive_frames.ensures front.1 front.0 (frames-most s.card.number a.input.now s) fits.1 in
    let told = on-session a.card.now a.input.now a.output.now s opened.session_is (sym opened.verdict_is ∙ ap outcome_of c.in_ok-opened.was) given in
    search rules
