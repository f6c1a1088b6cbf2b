-- A stored card written anew, as the page has it.
use Prim.Native.Nat.{ℕ}
use mathlib.Core.Path.{◌≡◌, refl, sym, ap, ◌∙◌}
use mathlib.Core.List.{List, ◌++◌, append_assoc, append-nil}
use Rattle.card.specs.Outcome.{Outcome}
use Rattle.card.specs.Outcome.Outcome.{accepted}
use Rattle.card.specs.Reading.{read_under, read_card}
use Rattle.card.specs.declared.CardRule.TheVariants.{Former}
use Rattle.outcomes.specs.Text.{text, decimal, spaced, line}
use Rattle.outcomes.specs.Listing.{too_long_line, refused_line}
use Rattle.listing.specs.Rewriting.{rewritten_under, Rewrites}
use Rattle.listing.proofs.AtFront.{front-is, rest_kept}
use Rattle.listing.proofs.Rewritten.{too_long, short}
use Rattle.terms.specs.Terms.{Rewritten}

-- ---- the lines
too-long-line : too_long_line ≡ text "input too long\n"
unfolding text spaced line too_long_line
too-long-line = refl

refused-line : (number offset : ℕ) → refused_line number offset ≡ text "refused " ++ (decimal number ++ (text " at " ++ (decimal offset ++ text "\n")))
unfolding text spaced line refused_line
refused-line number offset = simp (append_assoc, append-nil)

-- ---- the promise
pub is-rewritten : {input output after : List ℕ} {n : ℕ} → Rewrites input output n after → Rewritten input output n after
unfolding rewritten_under
is-rewritten {input} promise =
    let front = front-is promise.wrote in
    let read = read_under Former input in
    record {
      rest_kept = rest_kept promise.wrote;
      too_long = λ l. front ∙ too_long input l ∙ too-long-line;
      card_refused = λ number offset l e.
          front ∙ short input l ∙ ap (λ (o : Outcome). rewritten_under o read.card) e ∙ refused-line number offset;
      same_card = λ e.
          let as_read : read ≡ record { outcome = accepted; card = read.card } = ap (λ (o : Outcome). record { outcome = o; card = read.card }) e in
          ap read_card front ∙ promise.carried_over read.card as_read ∙ sym as_read;
      good_as_it_stands = λ e. front ∙ promise.as_it_stands e;
    }
