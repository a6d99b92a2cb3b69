-- The array holds what the artificial arcs before `e` put to each node.
use Rattle.case.specs.law.Extents.{node_capacity}
use Rattle.plan.proofs.Common.{◌≡◌, length}
use Rattle.plan.specs.inside.StationPass.{artificial_part}
use Rattle.plan.proofs.NetFlows.{Gathers}
use Rattle.plan.proofs.step.Passed.artificial_flows.Given as goal

abbrev pub invariant-loop-e : goal.invariant-loop-e
invariant-loop-e l = record {
  long : length l.net ≡ node_capacity;
  gathered : Gathers l.net (artificial_part l.self.step.case.list.now l.self.step.rows.now) l.e;
}
