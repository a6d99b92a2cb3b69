-- Counting over the range of the arcs is counting those before its end.
use Rattle.std.proofs.Common.{rules, tests}
use Rattle.case.specs.law.StationArcs.{belongs, arcs_before}
use Rattle.case.proofs.Chains.{count_from_filter}
use Rattle.case.proofs.members.station_arcs.Goals as goal

pub returns : goal.returns
unfolding arcs_before
returns c =
    let w = belongs c.args.case.now c.args.s in
    let n = c.count-arcs.result in
    let f = c.filter.ensures in
    rw c.count-arcs.ensures.value at
    (count_from_filter w n c.filter.result _ c.count.result c.count.ensures.ran f.source f.closure (λ x b q k. search (rules, tests)))
