-- The rows of the machines so far have no "no", and `at` is where the next one begins.
use Rattle.case.proofs.Common.{◌≡◌, ◌≤◌, ◌+◌, first_no}
use Prim.Native.Nat.{◌*◌}
use Rattle.numbers.specs.law.Items.{over}
use Rattle.numbers.specs.inside.ItemLaws.{rest}
use Rattle.case.specs.law.Extents.{machine_extent}
use Rattle.case.specs.law.Layout.{machine_at}
use Rattle.case.specs.law.StationFields.{machine_fields}
use Rattle.case.proofs.stations.StationRows.machines.Given as goal

abbrev pub invariant-loop : goal.invariant-loop
invariant-loop l = record {
  asked :
      first_no (over (machine_fields l.self.case.now l.self.offset) 0 l.machines)
      ≡ rest (machine_fields l.self.case.now l.self.offset) l.counter l.machines;
  place : l.at ≡ machine_at l.self.case.now l.self.offset l.counter;
  early : l.at ≤ l.initial.at + l.counter * machine_extent;
}
