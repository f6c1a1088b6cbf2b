use mathlib.Core.Path.{◌≡◌, sym, ◌∙◌}
use native.Mathlib.Omega.{arith}
use lib.ListN.{take, length-take}
use Rattle.std.proofs.Common.{rules, tests}
use Rattle.std.proofs.lemmas.Iterator.{YieldsList-from_slice, cases_from_all}
use Rattle.std.proofs.lemmas.List.{get_or-take}
use Rattle.decoder.proofs.Syndromes.{errors-none}
use Rattle.decoder.proofs.errors.Goals as goal

pub returns-then-all : goal.returns-then-all
returns-then-all c =
    let y = c.args.syndromes.now in
    let p = c.args.sizes.p in
    let none = rw c.if-all.true at (cases_from_all _ _ _ (λ x. x ≡ 0) (λ x. x ≡ 0 → ⊥) c.all.ensures.ran (YieldsList-from_slice (take p y) cc) (λ x q k. search (rules, tests)) (λ x q k. search (rules, tests))) in
    sym (errors-none _ _ _ _ _ _ _ (λ j l. sym (get_or-take p y j 0 l) ∙ none j 0 (omega arith) (omega (arith, length-take p y))))
