-- Each way out of the call by its test.
use native.Mathlib.Omega.{arith}
use Rattle.writer.proofs.Answers.{answer-short, answer-count}
use Rattle.writer.proofs.Forms.{written-form}
use Rattle.writer.proofs.write_card.Goals as goal

pub returns-then-output-count : goal.returns-then-output-count
returns-then-output-count c =
    let a = c.args in
    record { output_after = answer-short a.card a.output.now c.lay_out-count.ensures.count c.if-output-count.true; written_form = written-form a.card }

pub returns : goal.returns
returns c =
    let a = c.args in
    record {
      output_after = answer-count a.card a.output.now c.lay_out-count.ensures.count (omega arith) c.if-output-count.false c.lay_out.ensures.front;
      written_form = written-form a.card;
    }
