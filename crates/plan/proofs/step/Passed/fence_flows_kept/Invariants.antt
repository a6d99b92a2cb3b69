-- The nodes before `v` keep 32.
use Rattle.plan.proofs.Common.{◌≡◌, true}
use Rattle.case.specs.law.StationArcs.{every}
use Rattle.plan.specs.law.PlanRecords.{direction_in}
use Rattle.plan.specs.law.StationRules.{fence_kept}
use Rattle.plan.proofs.step.Passed.fence_flows_kept.Given as goal

abbrev pub invariant-loop-v : goal.invariant-loop-v
invariant-loop-v l =
    let t = l.self.step in
    every l.v (fence_kept t.case.list.now t.rows.now l.s (direction_in t.case.list.now t.rows.now l.s)) ≡ true
