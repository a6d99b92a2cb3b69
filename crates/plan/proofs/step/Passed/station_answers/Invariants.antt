-- The stations before `s` keep 30 to 32.
use Rattle.plan.proofs.Common.{◌≡◌}
use Rattle.numbers.specs.law.Question.{first_no}
use Rattle.numbers.specs.inside.ItemLaws.{rest}
use Rattle.plan.specs.law.StationRules.{station_questions, all_station_questions}
use Rattle.plan.proofs.step.Passed.station_answers.Given as goal

abbrev pub invariant-loop-s : goal.invariant-loop-s
invariant-loop-s l =
    let t = l.self.step in
    first_no (all_station_questions t.case.list.now t.rows.now t.i)
    ≡ rest (station_questions t.case.list.now t.rows.now t.i) l.s t.case.layout.now.stations
