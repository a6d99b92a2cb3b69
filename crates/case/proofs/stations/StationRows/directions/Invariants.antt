-- The rows of the directions so far have no "no", and `at` is where the next one begins.
use Rattle.case.proofs.Common.{◌≡◌, first_no}
use Rattle.numbers.specs.law.Items.{over}
use Rattle.numbers.specs.inside.ItemLaws.{rest}
use Rattle.case.specs.law.Layout.{direction_at}
use Rattle.case.specs.law.StationFields.{direction_fields}
use Rattle.case.proofs.stations.StationRows.directions.Given as goal

abbrev pub invariant-loop : goal.invariant-loop
invariant-loop l = record {
  asked :
      first_no (over (direction_fields l.self.case.now l.self.offset) 0 l.directions)
      ≡ rest (direction_fields l.self.case.now l.self.offset) l.counter l.directions;
  place : l.at ≡ direction_at l.self.case.now l.self.offset l.counter;
}
