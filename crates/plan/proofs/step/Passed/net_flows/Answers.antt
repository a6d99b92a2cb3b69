-- Before the first arc nothing is put to a node; past the last one each node has its net flow.
use Rattle.plan.proofs.Common.{refl}
use Rattle.plan.proofs.NetFlows.{gathers_none}
use Rattle.plan.proofs.NodeParts.{node_part}
use Rattle.plan.proofs.step.Passed.net_flows.Goals as goal

pub loop-e-init : goal.loop-e-init
loop-e-init c = record { long = refl; gathered = gathers_none (node_part c.args.self.now.step.case.list.now c.args.self.now.step.rows.now) }
