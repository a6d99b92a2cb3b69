-- `n` counts the station's arcs so far, and the set holds those of them that are active.
use Rattle.case.proofs.Common.{◌≡◌}
use Rattle.case.specs.law.StationArcs.{arcs_before, arc_set}
use Rattle.case.specs.law.States.{active_at_start}
use Rattle.case.proofs.members.start_set.Given as goal

abbrev pub invariant-loop-e : goal.invariant-loop-e
invariant-loop-e l = record {
  counted : l.n ≡ arcs_before l.case l.s l.e;
  gathered : l.set ≡ arc_set l.case l.s (active_at_start l.case) l.e;
}
