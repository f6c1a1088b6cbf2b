use native.Mathlib.Omega.{arith}
use Rattle.listing.proofs.Listed.{lists}
use Rattle.listing.proofs.list.Goals as goal

pub returns : goal.returns
returns c = lists c.list_input.ensures c.new-cursor.ensures.front (omega arith)
