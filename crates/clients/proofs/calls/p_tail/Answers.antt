use Rattle.clients.proofs.SenderClauses.{is-sent, tail-after}
use Rattle.clients.proofs.calls.p_tail.Goals as goal

pub returns-in_err-send : goal.returns-in_err-send
returns-in_err-send c = absurd (cc (is-sent _ c.open.ensures c.send.result c.send.ensures, c.in_err-send.was))

pub returns : goal.returns
returns c = tail-after _ c.open.ensures c.send.result c.send.ensures c.send_tail.result c.send_tail.ensures
