-- What is gathered before step i is that of the steps from s on.
use Rattle.plan.specs.inside.RegionSet.{inside_of}
use Rattle.plan.specs.inside.RegionLoop.{Gathering}
use Rattle.plan.proofs.ledger.Span.gather.Given as goal

abbrev pub invariant-loop-i : goal.invariant-loop-i
invariant-loop-i l = Gathering l.self.case.list.now l.self.plan.now (inside_of l.inside) l.self.s l.i l.g
