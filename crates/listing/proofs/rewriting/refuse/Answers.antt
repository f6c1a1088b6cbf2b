use mathlib.Core.Path.{refl}
use native.Mathlib.Omega.{arith}
use Rattle.card.specs.Layout.{longest_card}
use Rattle.listing.proofs.AtFront.{front-stored}
use Rattle.listing.proofs.rewriting.refuse.Goals as goal

pub returns : goal.returns
returns c = front-stored longest_card refl c.tell.ensures c.new-cursor.ensures.front (omega arith) (omega arith)
