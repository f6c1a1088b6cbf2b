-- What was written is the front of the output, and is read; in so much room it is never refused.
use mathlib.Core.Path.{refl, sym}
use native.Mathlib.Omega.{arith}
use lib.Seq.{length-take-le}
use Rattle.clients.proofs.StandardClauses.{fits, accepted-each}
use Rattle.clients.proofs.standards.each_is_accepted.Goals as goal
use Rattle.clients.proofs.standards.each_is_accepted.Goals.{After-unwrap_or-count}

pub slice_bounds-output-end : goal.slice_bounds-output-end
slice_bounds-output-end c =
    let written = c.write_standard in
    omega (arith, fits written.ensures.standard_cards _ c.args.checks refl written.result written.ensures.output_after)

pub slice_bounds-read_card-end : goal.slice_bounds-read_card-end
slice_bounds-read_card-end c = sym (length-take-le c.unwrap_or-count.result c.write_standard.new.output (slice_bounds-output-end (goal.at.slice_bounds-read_card-end c).After-unwrap_or-count))

pub returns : goal.returns
returns c = λ least most.
    let written = c.write_standard in
    accepted-each written.ensures.standard_cards _ c.args.checks refl least most written.result written.ensures.output_after
    (rw c.unwrap_or-count.ensures at c.read_card.ensures)
