use mathlib.Core.Path.{◌∙◌}
use native.Mathlib.Omega.{arith}
use lib.ListN.{take}
use lib.Count.{ones}
use Rattle.std.proofs.Common.{rules, tests}
use Rattle.std.proofs.lemmas.Iterator.{YieldsList-from_slice, YieldsList-from_map}
use Rattle.std.proofs.lemmas.Iterator.Consumers.{sum_by_from_yields_List, fits_by_from_yields_list}
use Rattle.decoder.proofs.Syndromes.{ones-counted, ones-most}
use Rattle.decoder.proofs.registers.ones.Goals as goal

pub sum-requires-clause-fits : goal.sum-requires-clause-fits
sum-requires-clause-fits c =
    let a = c.args in
    let y = take a.p a.syndromes.now in
    fits_by_from_yields_list ones y c.map.result _ (YieldsList-from_map _ ones (YieldsList-from_slice y (cc)) c.map.ensures.closure (λ x r q k. search (rules, tests)))
    (omega (arith, ones-counted a.syndromes.now a.p (omega arith), ones-most a.syndromes.now a.p (λ i. c.fits-syndromes i)))

pub returns : goal.returns
returns c =
    let a = c.args in
    let y = take a.p a.syndromes.now in
    sum_by_from_yields_List ones y c.map.result c.sum.result c.sum.ensures.ran
    (YieldsList-from_map _ ones (YieldsList-from_slice y (cc)) c.map.ensures.closure (λ x r q k. search (rules, tests)))
    ∙ ones-counted a.syndromes.now a.p (omega arith)
