-- There is no such card, or it is an entry of the table: the test over all entries is computed here, where the table stands.
use mathlib.Core.Path.{refl, sym, ap, ◌∙◌}
use mathlib.Core.Logic.{◌⊎◌, inl, inr, ⊎_elim}
use native.Mathlib.Omega.{arith}
use Prim.Native.Nat.{◌≤◌, ◌<◌}
use Rattle.card.specs.Layout.{bytes4, stands, map_of, layout_masks, optional, layout_head, all_rows, layout_rows, layout_checks, layout_streams, layout}
use Rattle.card.specs.Written.{stated}
use Rattle.outcomes.specs.Outcome.{fitted}
use Rattle.standard.specs.SelfOrthogonal.{last_of, mask_of, fields_by}
use Rattle.standard.proofs.Answers.{outside, within}
use Rattle.standard.proofs.Cards.{standard-cards, entry-is}
use Rattle.standard.proofs.write_standard.Goals as goal

pub returns-then-checks-lt2 : goal.returns-then-checks-lt2
returns-then-checks-lt2 c =
    let a = c.args in
    let none : (a.checks < 2) ⊎ (7 < a.checks) = ⊎_elim inl (λ many. inr many.1) c.then-checks-lt2.either in
    record { output_after = outside a.checks a.output.now none; standard_cards = standard-cards }

pub returns : goal.returns
unfolding stated last_of mask_of fields_by bytes4 stands map_of layout_masks optional layout_head all_rows layout_rows layout_checks layout_streams layout
returns c =
    let a = c.args in
    let least : 2 ≤ a.checks = omega arith in
    let most : a.checks ≤ 7 = omega arith in
    record {
      output_after = c.give.ensures
          ∙ ap (λ bytes. fitted bytes a.output.now) (entry-is _ refl a.checks least most)
          ∙ sym (within a.checks a.output.now least most);
      standard_cards = standard-cards;
    }
