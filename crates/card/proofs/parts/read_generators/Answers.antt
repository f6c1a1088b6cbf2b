use mathlib.Core.Path.{sym}
use Rattle.std.proofs.lemmas.Result.{err_from_is_err_and}
use Rattle.card.specs.Reading.{read_generators}
use Rattle.card.proofs.RestGenerators.{rows-begin, row-begin, row_next, rows_next, rows_whole, row-stop}
use Rattle.card.proofs.parts.read_generators.Goals as goal

pub returns-in_err-rest : goal.returns-in_err-rest
unfolding read_generators
returns-in_err-rest c =
    let p = err_from_is_err_and c.from_residual.result c.from_residual.ensures.1 in
    rw (p.1, p.2, ← c.in_err-rest.ensures)

pub loop-i-init : goal.loop-i-init
loop-i-init c = rows-begin _ _ _ c.requires.generators_empty (sym c.in_ok-rest.ensures)

pub loop-j-init : goal.loop-j-init
loop-j-init c = row-begin c.loop-i.invariant c.loop-i-test.true

pub returns-in_err-generators : goal.returns-in_err-generators
returns-in_err-generators c =
    let p = err_from_is_err_and c.from_residual-in_err-generators.result c.from_residual-in_err-generators.ensures.1 in
    rw (p.1, p.2) (row-stop c.loop-j.invariant c.loop-j-test.true (sym c.in_err-generators.ensures))

pub loop-j-preserved : goal.loop-j-preserved
loop-j-preserved c = row_next c.loop-j.invariant c.loop-j-test.true (sym c.in_ok-generators.ensures)

pub loop-i-preserved : goal.loop-i-preserved
loop-i-preserved c = rows_next c.loop-j.invariant c.loop-i-test.true c.loop-j-test.false

pub returns : goal.returns
returns c = rows_whole c.loop-i.invariant c.loop-i-test.false
