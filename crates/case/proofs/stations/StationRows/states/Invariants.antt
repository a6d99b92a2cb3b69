-- The rows of the states before z have no "no".
use Rattle.case.proofs.Common.{◌≡◌, first_no}
use Rattle.numbers.specs.law.Items.{over}
use Rattle.numbers.specs.inside.ItemLaws.{rest}
use Rattle.case.specs.law.StationFields.{state_fields}
use Rattle.case.proofs.stations.StationRows.states.Given as goal

abbrev pub invariant-loop-z : goal.invariant-loop-z
invariant-loop-z l = first_no (over (state_fields l.self.case.now l.self.offset) 0 l.states) ≡ rest (state_fields l.self.case.now l.self.offset) l.z l.states
