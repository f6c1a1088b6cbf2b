-- With room enough writing is not refused, and comes to the count.
use Prim.Native.Nat.{ℕ, ◌≤◌}
use mathlib.Core.Path.{◌≡◌, sym, ap, ◌∙◌}
use mathlib.Core.List.{List}
use native.Mathlib.Omega.{arith}
use lib.ListN.{length}
use borrow.Author.Rules.{rules}
use Rattle.std.proofs.Common.{Result, Ok, Err}
use Rattle.std.specs.Result.{IsOk}
use Rattle.code.specs.declared.Card.{Card}
use Rattle.card.specs.declared.Refusal.{Refusal}
use Rattle.card.specs.Written.{written}
use Rattle.outcomes.specs.Outcome.{outcome, answer_of}
use Rattle.writer.specs.Outcome.{write_under}
use Rattle.writer.proofs.Answers.{write-given, never-refused}
use Rattle.listing.proofs.rewriting.write_anew.Goals as goal

came : (c : Card) (output : List ℕ) (r : Result ℕ Refusal) {after : List ℕ} → length (written c) ≤ length output
    → outcome (answer_of r) after ≡ write_under c output → IsOk r
came c output (Ok count) room e = search rules
came c output (Err refusal) room e = absurd (never-refused c output refusal room e)

pub unwrap-requires : goal.unwrap-requires
unwrap-requires c = came c.args.card c.args.output.now c.write_card.result (omega arith) c.write_card.ensures.output_after

pub returns : goal.returns
returns c =
    ap (λ (r : Result ℕ Refusal). outcome (answer_of r) c.write_card.new.output) (sym c.unwrap.ensures)
    ∙ c.write_card.ensures.output_after
    ∙ write-given c.args.card c.args.output.now (omega arith)
