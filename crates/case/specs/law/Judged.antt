-- The questions of a case, in their order, and what is told of it: "The first "no" ends the judging."
-- Assumes nothing.
use Rattle.std.specs.Prelude.{List, ◌++◌, ℤ}
use Rattle.numbers.specs.law.Told.{Told}
use Rattle.numbers.specs.law.Question.{Question, first_no, told}
use Rattle.case.specs.law.HeadFields.{head_fields}
use Rattle.case.specs.law.TimeFields.{time_fields}
use Rattle.case.specs.law.NodeFields.{all_node_fields}
use Rattle.case.specs.law.ArcFields.{all_arc_fields}
use Rattle.case.specs.law.StationFields.{all_station_fields}
use Rattle.case.specs.law.Leftover.{leftover}
use Rattle.case.specs.law.ArcEnds.{all_arc_ends}
use Rattle.case.specs.law.OneStation.{all_one_station}
use Rattle.case.specs.law.StationSize.{all_station_sizes}
use Rattle.case.specs.law.Directions.{all_direction_sets}
use Rattle.case.specs.law.States.{all_state_sets}

-- 10 to 12 past the head
unfoldable pub row_questions : List ℤ → List Question
row_questions case =
    time_fields case
    ++ (all_node_fields case
    ++ (all_arc_fields case
    ++ (all_station_fields case
    ++ leftover case)))

-- 10 to 12
unfoldable pub list_questions : List ℤ → List Question
list_questions case = head_fields case ++ row_questions case

-- 13 to 16: "over all arcs, nodes or stations, one question after the other"
unfoldable pub early_rules : List ℤ → List Question
early_rules case =
    all_arc_ends case
    ++ (all_one_station case
    ++ (all_station_sizes case
    ++ all_direction_sets case))

unfoldable pub rule_questions : List ℤ → List Question
rule_questions case = early_rules case ++ all_state_sets case

unfoldable pub case_questions : List ℤ → List Question
case_questions case = list_questions case ++ rule_questions case

unfoldable pub judged_case : List ℤ → Told
judged_case case = told (first_no (case_questions case))
