-- The number is a byte, the place a machine word.
use Prim.Native.Nat.{ℕ}
use mathlib.Core.Path.{◌≡◌, ap, ◌∙◌}
use native.Mathlib.Omega.{arith}
use Rattle.card.specs.Refusals.{number_of}
use Rattle.outcomes.specs.Text.{text}
use Rattle.outcomes.specs.Listing.{refused_line}
use Rattle.outcomes.proofs.Writing.{stored-both, stored-as}
use Rattle.listing.proofs.LineParts.{refused-line, refused-length}
use Rattle.listing.proofs.lines.refused.Goals as goal

pub returns : goal.returns
unfolding text
returns c =
    let same : c.from-2.result ≡ number_of c.args.refusal = cc in
    record {
      stored =
          stored-as (refused-line _ _ ∙ ap (λ (n : ℕ). refused_line n c.args.place) same)
          (stored-both (stored-both c.numbered.ensures c.numbered-2.ensures) c.put.ensures);
      within = refused-length (number_of c.args.refusal) c.args.place (omega (arith, same, c.from.type_inv)) (omega (arith, c.ranges.place));
    }
