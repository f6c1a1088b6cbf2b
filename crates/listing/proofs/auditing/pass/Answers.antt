use Rattle.std.proofs.lemmas.Result.{err_from_is_err_and}
use Rattle.listing.proofs.Audited.{unread-passes, refused-passes, accepted-passes}
use Rattle.listing.proofs.auditing.pass.Goals as goal

pub returns-in_default : goal.returns-in_default
returns-in_default c = rw c.in_default.is (unread-passes c.in_default.field-0.now)

pub returns-in_err-read : goal.returns-in_err-read
returns-in_err-read c =
    let p = err_from_is_err_and c.from_residual.result c.from_residual.ensures.1 in
    rw (p.1, p.2, c.in-Ok.is) (refused-passes c.in-Ok.bytes.now c.in_err-read.field-0.0 c.in_err-read.ensures)

pub returns : goal.returns
returns c = rw c.in-Ok.is (accepted-passes c.in-Ok.bytes.now c.in_ok-read.field-0 c.in_ok-read.ensures)
