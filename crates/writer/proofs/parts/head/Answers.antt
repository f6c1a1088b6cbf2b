-- Byte 0, the card number, k, n and m, one after the other.
use Prim.Native.Nat.{min}
use mathlib.Core.Path.{ap, ◌∙◌}
use Rattle.code.specs.declared.Sizes.{Sizes}
use Rattle.card.specs.Layout.{layout_head}
use Rattle.card.specs.Written.{head_of, fields_of}
use Rattle.outcomes.proofs.Writing.{stored-both, stored-as}
use Rattle.writer.proofs.Laying.{head-parts}
use Rattle.writer.proofs.parts.head.Goals as goal

pub returns : goal.returns
unfolding fields_of
returns c =
    let s = c.sizes-k.result in
    stored-as
    (head-parts c.args.card.now.number s.k s.n c.min.result c.stated.ensures.0 c.stated-2.ensures.0
    ∙ ap (λ m. layout_head (head_of c.args.card.now.number s.k s.n m)) c.min.ensures
    ∙ ap (λ (s : Sizes). layout_head (head_of c.args.card.now.number s.k s.n (min s.m 31))) c.sizes-k.ensures)
    (stored-both c.put.ensures (stored-both c.put-2.ensures (stored-both c.field.ensures (stored-both c.field-2.ensures c.put-3.ensures))))
