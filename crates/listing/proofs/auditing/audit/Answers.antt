use mathlib.Core.Path.{refl}
use native.Mathlib.Omega.{arith}
use Rattle.outcomes.specs.Text.{text}
use Rattle.outcomes.proofs.Writing.{stored-both}
use Rattle.listing.specs.Stored.{why_line}
use Rattle.listing.specs.Auditing.{bytes_of, name_in}
use Rattle.listing.proofs.Audited.{line-front, why-told, audits, no-line, counts, its-line, counts-nothing}
use Rattle.listing.proofs.auditing.audit.Goals as goal

pub returns-in_default : goal.returns-in_default
returns-in_default c =
    let file = bytes_of c.args.file in
    let output = c.args.output.now in
    let size = c.args.size in
    let pass = c.in_default.ensures in
    audits file output size pass (no-line file output size pass) (counts file output size pass)

pub returns : goal.returns
unfolding text
returns c =
    let file = bytes_of c.args.file in
    let output = c.args.output.now in
    let size = c.args.size in
    let why = c.in-Err.why in
    let pass = c.in-Err.ensures in
    audits file output size pass
    (its-line file output size why pass
    (line-front output size (omega arith) (why_line why) (why-told (name_in output size) why) refl c.min.ensures
    (stored-both c.put.ensures c.tell.ensures.stored) c.tell.ensures.within))
    (counts-nothing file output size why pass)
