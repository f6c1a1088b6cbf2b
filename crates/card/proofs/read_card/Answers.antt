-- Each part's answer is the definition's (`WholeCard`), and what the definition accepts is what the promise says (`Acceptance`).
use native.Mathlib.Omega.{arith}
use Rattle.std.proofs.lemmas.Result.{err_from_is_err_and}
use Rattle.card.proofs.WholeCard.{head-stop, head-ranges, generators-stop, generators_within, checks-stop, after_stop, accepted-card}
use Rattle.card.proofs.Acceptance.{card-promise}
use Rattle.card.proofs.read_card.Goals as goal

pub returns-in_err-sizes : goal.returns-in_err-sizes
returns-in_err-sizes c =
    let p = err_from_is_err_and c.from_residual.result c.from_residual.ensures.1 in
    rw (p.1, p.2) (card-promise _ c.args.bytes.now _ (λ i. omega (arith, c.type_inv.bytes i)) (head-stop _ _ c.in_err-sizes.ensures))

pub read_generators-requires-clause-start_in_bounds : goal.read_generators-requires-clause-start_in_bounds
read_generators-requires-clause-start_in_bounds c = (head-ranges _ _ c.in_ok-sizes.ensures).inside

pub read_generators-requires-clause-sizes_in_limits : goal.read_generators-requires-clause-sizes_in_limits
read_generators-requires-clause-sizes_in_limits c = let r = head-ranges _ _ c.in_ok-sizes.ensures in (r.k_most, (r.p-most, r.m_most))

pub returns-in_err-at : goal.returns-in_err-at
returns-in_err-at c =
    let p = err_from_is_err_and c.from_residual-in_err-at.result c.from_residual-in_err-at.ensures.1 in
    rw (p.1, p.2) (card-promise _ c.args.bytes.now _ (λ i. omega (arith, c.type_inv.bytes i)) (generators-stop _ _ c.in_ok-sizes.ensures c.in_err-at.ensures))

pub read_checks-requires-clause-start_in_bounds : goal.read_checks-requires-clause-start_in_bounds
read_checks-requires-clause-start_in_bounds c = generators_within _ _ c.in_ok-sizes.ensures c.in_ok-at.ensures

pub read_checks-requires-clause-sizes_in_limits : goal.read_checks-requires-clause-sizes_in_limits
read_checks-requires-clause-sizes_in_limits c = let r = head-ranges _ _ c.in_ok-sizes.ensures in (r.k_most, (r.n_most, (r.p-most, r.m_most)))

pub returns-in_err-at-2 : goal.returns-in_err-at-2
returns-in_err-at-2 c =
    let p = err_from_is_err_and c.from_residual-in_err-at-2.result c.from_residual-in_err-at-2.ensures.1 in
    rw (p.1, p.2)
    (card-promise _ c.args.bytes.now _ (λ i. omega (arith, c.type_inv.bytes i)) (checks-stop _ _ c.in_ok-sizes.ensures c.in_ok-at.ensures c.in_err-at-2.ensures))

pub returns-then-at-bytes : goal.returns-then-at-bytes
returns-then-at-bytes c =
    card-promise _ c.args.bytes.now _ (λ i. omega (arith, c.type_inv.bytes i))
    (after_stop _ _ c.in_ok-sizes.ensures c.in_ok-at.ensures c.in_ok-at-2.ensures c.if-at-bytes.true)

pub returns : goal.returns
returns c =
    card-promise _ c.args.bytes.now _ (λ i. omega (arith, c.type_inv.bytes i))
    (accepted-card _ _ c.in_ok-sizes.ensures c.in_ok-at.ensures c.in_ok-at-2.ensures c.if-at-bytes.false)
