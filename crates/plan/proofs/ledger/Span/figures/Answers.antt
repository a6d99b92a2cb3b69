-- The gas at both times goes by pressures that an array holds, and the two sums are those gathered for the set.
use Rattle.std.proofs.Common.{◌∙◌, arith}
use Rattle.numbers.specs.inside.SignedBounds.{mag≤}
use Rattle.numbers.specs.inside.SignedLocals.{kept}
use Rattle.plan.specs.inside.CaseSizes.{counted}
use Rattle.plan.specs.inside.RegionSet.{inside_of}
use Rattle.plan.specs.inside.RegionLoop.{gas_held}
use Rattle.plan.specs.inside.LedgerAnswer.{figures_are}
use Rattle.plan.proofs.ledger.Span.figures.Goals as goal

pub returns : goal.returns
returns c =
    let a = c.args in
    let s = a.self.now in
    let r = s.rules in
    let g = c.gather-g.ensures in
    let w = inside_of a.inside.now in
    figures_are s.case.list.now s.plan.now w s.s s.t c.requires c.inner_pipes.ensures
    (kept _ c.region_gas.type_inv ∙ c.region_gas.ensures ∙ gas_held r w s.s c.pressures_at-list.ensures)
    (kept _ c.region_gas-2.type_inv ∙ c.region_gas-2.ensures ∙ gas_held r w s.t g.held)
    g (kept _ (omega (arith, mag≤ c.gather-g.result.brought, g.brought_few, s.last, (counted s.case.yes).steps)))
