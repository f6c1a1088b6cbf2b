-- The three parts, from the front on.
use mathlib.Core.Path.{ap}
use lib.ListN.{length}
use native.Mathlib.Omega.{arith}
use Rattle.std.proofs.Common.{rules}
use Rattle.card.specs.Layout.{layout}
use Rattle.card.specs.Written.{written}
use Rattle.outcomes.proofs.Writing.{stored-both, stored-front}
use Rattle.writer.proofs.lay_out.Goals as goal

pub returns-clause-count : goal.returns-clause-count
unfolding written layout
returns-clause-count c =
    let laid = stored-both c.head.ensures (stored-both c.generators.ensures c.streams.ensures) in
    omega (arith, laid.at_is)

pub returns-clause-front : goal.returns-clause-front
unfolding written layout
returns-clause-front c room =
    let laid = stored-both c.head.ensures (stored-both c.generators.ensures c.streams.ensures) in
    let front = stored-front laid c.new-cursor.ensures.front.1 (omega (arith, ap length c.new-cursor.ensures.front.0)) in
    search rules
