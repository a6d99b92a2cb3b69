-- Of each station what stands in the array is gathered of its arcs before `e`.
use Rattle.plan.proofs.StationPasses.{GatheredAll}
use Rattle.plan.proofs.step.Passed.gather.Given as goal

abbrev pub invariant-loop-e : goal.invariant-loop-e
invariant-loop-e l = GatheredAll l.self.step.case.list.now l.self.step.rows.now l.stations l.e
