use Rattle.std.proofs.Common.{arith}
use Rattle.std.proofs.lemmas.Bool.Decides.{nat_tests}
use mathlib.Core.Path.{◌≡◌, sym, ◌∙◌}
use mathlib.Core.Bool.{false}
use Rattle.encoder.specs.Sending.{history_next, frame_next, encoded_of, tail_begun, lacks_room, digit_beyond}
use Rattle.encoder.proofs.Outcomes.{send-taken}
use Rattle.encoder.proofs.Session.send.Goals as goal

pub returns : goal.returns
unfolding encoded_of history_next frame_next
returns c =
    let s = c.args.self.now in
    let begun : tail_begun s ≡ false = grind (arith, nat_tests) in
    let room : lacks_room s ≡ false = grind (arith, nat_tests) in
    let beyond : digit_beyond s c.args.info ≡ false = cc in
    c.encode.ensures ∙ sym (send-taken s c.args.info begun room beyond)
