-- The flow with its two slacks is small, so the sum is read as it is.
use Rattle.plan.proofs.Common.{rules, ne_eqb, w64, held, param, ◌+ʳ◌, ◌-ʳ◌}
use mir.Val.{SFits}
use Rattle.plan.specs.law.NodeRules.{demand_met}
use Rattle.plan.proofs.SignedReads.{same_held}
use Rattle.plan.proofs.nodes.demand_met.Goals as goal

pub returns-else-n-eq0 : goal.returns-else-n-eq0
unfolding demand_met
returns-else-n-eq0 c =
    let p = c.requires in
    let fits : SFits w64 c.args.n.demand = search rules in
    rw (ne_eqb _ _ c.if-n-eq0.false) (same_held (held (param p.d tt +ʳ param p.splus tt) tt -ʳ param p.sminus tt) tt fits)
