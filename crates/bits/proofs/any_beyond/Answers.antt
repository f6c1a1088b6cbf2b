use Rattle.std.proofs.Common.{rules, ◌≡◌, bit_or, leb, ◌^◌}
use mathlib.Core.Path.{ap, ◌∙◌}
use Rattle.std.specs.List.{fold}
use Rattle.bits.proofs.Words.{any-beyond}
use Rattle.bits.proofs.any_beyond.Goals as goal

pub returns : goal.returns
returns c =
    let all : c.fold.result ≡ fold bit_or 0 c.args.frames.now = search rules in
    c.beyond.ensures ∙ ap (leb (2 ^ c.args.n)) all ∙ any-beyond c.args.n c.args.frames.now
