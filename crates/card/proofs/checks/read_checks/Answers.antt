use mathlib.Core.Path.{refl, sym, ap, ◌∙◌}
use native.Mathlib.Omega.{arith}
use Rattle.orthogonal.specs.Judgements.{judgement_number}
use Rattle.orthogonal.proofs.Failures.{failure-least}
use Rattle.card.specs.Reading.Read.{fault}
use Rattle.card.specs.Parts.{code_by}
use Rattle.card.proofs.CheckLoops.{streams-begin, checks-begin, masks-begin, masks-next, checks-next, streams-next}
use Rattle.card.proofs.CheckLoops.{streams-whole, streams-stop, checks-stop, masks-stop, check-stop}
use Rattle.card.proofs.checks.read_checks.Goals as goal
use Rattle.card.proofs.checks.read_checks.Goals.{else-card-test, then-card-test+in-Err, then-card-test+in-Ok+then-loop-q-test+in-Err-mapped}
use Rattle.card.proofs.checks.read_checks.Goals.{then-card-test+in-Ok+then-loop-q-test+in-Ok-mapped+then-loop-j-test+in-Err-standing_mask}
use Rattle.card.proofs.checks.read_checks.Goals.{then-card-test+in-Ok+then-loop-q-test+in-Ok-mapped+else-loop-j-test+in-Err-passed}

pub card-init : goal.card-init
card-init c =
    let a = c.args in
    record {
      unbroken = refl;
      place =
          streams-begin _ (code_by a.sizes a.generators.now) _ (record { k_most = omega arith; n_most = omega arith; p-most = omega arith; m_most = omega arith }) (omega arith)
          c.requires.tables_empty.0 c.requires.tables_empty.1;
    }

pub loop-q-init : goal.loop-q-init
loop-q-init c = record { unbroken = c.card.invariant.unbroken; place = checks-begin c.card.invariant.place c.card-test.true (sym c.in-Ok.ensures) }

pub loop-j-init : goal.loop-j-init
loop-j-init c = record { unbroken = c.loop-q.invariant.unbroken; place = masks-begin c.loop-q.invariant.place c.loop-q-test.true (sym c.in-Ok-mapped.ensures) }

pub loop-j-preserved : goal.loop-j-preserved
loop-j-preserved c =
    record { unbroken = c.loop-j.invariant.unbroken; place = masks-next c.loop-j.invariant.place c.loop-j-test.true (sym c.in-Ok-standing_mask.ensures) }

pub loop-q-preserved : goal.loop-q-preserved
loop-q-preserved c =
    record {
      unbroken = c.loop-j.invariant.unbroken;
      place = checks-next c.loop-j.invariant.place c.loop-j-test.false c.pass-passed.ensures (ap judgement_number c.in_default.is);
    }

pub card-preserved : goal.card-preserved
card-preserved c = record { unbroken = c.loop-q.invariant.unbroken; place = streams-next c.loop-q.invariant.place c.loop-q-test.false }

pub returns : goal.returns
returns c =
    elim c.card-test.branch [
      | else-card-test w ↦
          rw (c.and.ensures, w.outcome-is, w.at-is, w.counts-is, w.checks-is, c.card.invariant.unbroken) (streams-whole c.card.invariant.place w.card-test.false)
      | then-card-test+in-Err w ↦ rw (c.and.ensures, w.outcome-is) (streams-stop c.card.invariant.place w.card-test.true (sym w.in-Err.ensures))
      | then-card-test+in-Ok+then-loop-q-test+in-Err-mapped w ↦
          rw (c.and.ensures, w.outcome-is) (checks-stop w.loop-q.invariant.place w.loop-q-test.true (sym w.in-Err-mapped.ensures))
      | then-card-test+in-Ok+then-loop-q-test+in-Ok-mapped+then-loop-j-test+in-Err-standing_mask w ↦
          rw (c.and.ensures, w.outcome-is) (masks-stop w.loop-j.invariant.place w.loop-j-test.true (sym w.in-Err-standing_mask.ensures))
      | then-card-test+in-Ok+then-loop-q-test+in-Ok-mapped+else-loop-j-test+in-Err-passed w ↦
          rw (c.and.ensures, w.outcome-is)
          (ap (λ n. fault n w.loop-q.at) w.from.ensures
          ∙ check-stop w.loop-j.invariant.place w.loop-j-test.false w.pass-passed.ensures (ap judgement_number w.in-Err-passed.is) (failure-least w.in-Err-passed.failure))
    ]
