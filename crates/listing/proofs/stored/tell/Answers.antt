use native.Mathlib.Omega.{arith}
use mathlib.Core.Path.{sym, ap}
use Rattle.listing.specs.Stored.{why_line}
use Rattle.listing.proofs.Writing.{line-as}
use Rattle.listing.proofs.stored.tell.Goals as goal

pub returns-in-NotRead : goal.returns-in-NotRead
unfolding why_line
returns-in-NotRead c = line-as (sym (ap why_line c.in-NotRead.is)) (omega arith) c.not_read.ensures

pub returns-in-TooLong : goal.returns-in-TooLong
unfolding why_line
returns-in-TooLong c = line-as (sym (ap why_line c.in-TooLong.is)) (omega arith) c.too_long.ensures

pub returns-in-Refused : goal.returns-in-Refused
unfolding why_line
returns-in-Refused c = line-as (sym (ap why_line c.in-Refused.is)) (omega arith) c.refused.ensures
