-- An arc that is no pipe has one flow, the difference of the two numbers of its row.
use Rattle.plan.proofs.Common.{◌≡◌, ap, ◌∙◌, false, ne_eqb}
use Rattle.case.specs.declared.records.Arc.{Arc}
use Rattle.plan.specs.declared.rows.ArcRow.{ArcRow}
use Rattle.plan.specs.law.Pipes.{is_pipe}
use Rattle.plan.specs.law.Balance.{flow_at_from, flow_at_to}
use Rattle.plan.proofs.NodeParts.{flow_read}
use Rattle.plan.proofs.step.Passed.end_flows.Goals as goal

pub returns-else-arc-eq2 : goal.returns-else-arc-eq2
unfolding flow_at_from flow_at_to
returns-else-arc-eq2 c =
    let z = c.args.self.now.flows.each c.args.e c.requires in
    let y : is_pipe c.args.self.now.step.case.list.now c.args.e ≡ false = ne_eqb _ 2 (λ q. c.if-arc-eq2.false (ap (λ (x : Arc). x.kind) c.arc.ensures ∙ q)) in
    let d = flow_read (ap (λ (r : ArcRow). r.a) c.arc_row-r.ensures) (ap (λ (r : ArcRow). r.b) c.arc_row-r.ensures) z.a z.b in
    rw y (d, d)
