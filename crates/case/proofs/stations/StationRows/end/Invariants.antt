-- `end` is where the next machine's row begins, each where the one before it ends.
use Rattle.case.proofs.Common.{◌≡◌, ◌≤◌, ◌+◌}
use Prim.Native.Nat.{◌*◌}
use Rattle.case.specs.law.Extents.{machine_extent}
use Rattle.case.specs.law.Layout.{machine_at}
use Rattle.case.proofs.stations.StationRows.end.Given as goal

abbrev pub invariant-loop : goal.invariant-loop
invariant-loop l = record {
  place : l.end ≡ machine_at l.self.case.now l.self.offset l.counter;
  early : l.end ≤ l.initial.end + l.counter * machine_extent;
}
