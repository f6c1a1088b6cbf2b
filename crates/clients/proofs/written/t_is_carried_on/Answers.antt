use borrow.Author.Rules.{rules}
use Rattle.card.specs.Bench.{checks}
use Rattle.clients.proofs.WriterClauses.{carried-on-T}
use Rattle.clients.proofs.written.t_is_carried_on.Goals as goal

pub returns : goal.returns
unfolding checks
returns c =
    let written = c.card_write in
    carried-on-T _ (search rules) {r = written.result} {after = written.new.output} (search rules) written.ensures.output_after written.ensures.carries_on
