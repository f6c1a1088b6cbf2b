use Rattle.std.proofs.Common.{arith}
use Rattle.std.proofs.lemmas.Bool.Decides.{nat_tests}
use mathlib.Core.Path.{◌≡◌, sym, ◌∙◌}
use mathlib.Core.Bool.{false}
use Rattle.encoder.specs.Sending.{history_next, frame_next, encoded_of, tail_out}
use Rattle.encoder.proofs.Outcomes.{tail-taken}
use Rattle.encoder.proofs.Session.send_tail.Goals as goal

pub returns : goal.returns
unfolding encoded_of history_next frame_next
returns c =
    let s = c.args.self.now in
    let left : tail_out s ≡ false = grind (arith, nat_tests) in
    c.encode.ensures ∙ sym (tail-taken s left)
