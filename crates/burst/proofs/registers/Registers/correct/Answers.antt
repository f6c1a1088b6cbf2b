use mathlib.Core.Path.{refl, sym, ap}
use mathlib.Core.Logic.{inl, inr}
use native.Mathlib.Omega.{arith}
use borrow.Author.Rules.{rules}
use Rattle.vote.proofs.Voting.{decide-all-none}
use Rattle.burst.specs.declared.registers.Registers.{Registers}
use Rattle.burst.proofs.Deciding.{decided-small, voted-errors}
use Rattle.burst.proofs.registers.Registers.correct.Goals as goal

pub returns-then-held-eq0 : goal.returns-then-held-eq0
returns-then-held-eq0 c =
    record {
      errors_are = λ long. sym (decide-all-none _ _ _ _ _ (c.requires.none_held c.if-held-eq0.true));
      errors_lt = omega arith;
      coming_same = refl;
      after_is = inl (refl, refl);
    }

pub take_out-requires : goal.take_out-requires
take_out-requires c = search (rules, decided-small)

pub returns-then-errors-ne0 : goal.returns-then-errors-ne0
returns-then-errors-ne0 c =
    let errors = c.decide_all-errors.ensures in
    record {
      errors_are = voted-errors _ _ _ _ _ c.requires.p_most (omega arith) c.requires.none_beyond errors;
      errors_lt = decided-small _ _ _ _ _ errors;
      coming_same = ap (λ (r : Registers). r.coming) c.take_out.ensures;
      after_is = inr (ap (λ (r : Registers). r.syndromes) c.take_out.ensures);
    }

pub returns-else-errors-ne0 : goal.returns-else-errors-ne0
returns-else-errors-ne0 c =
    let errors = c.decide_all-errors.ensures in
    record {
      errors_are = voted-errors _ _ _ _ _ c.requires.p_most (omega arith) c.requires.none_beyond errors;
      errors_lt = decided-small _ _ _ _ _ errors;
      coming_same = refl;
      after_is = inl (c.if-errors-ne0.false, refl);
    }
