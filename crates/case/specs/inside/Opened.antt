-- What a proof opens together: the definitions of the law that a group of questions is made of, under one name.
use Rattle.case.specs.law.ArcFields.{all_arc_fields}
use Rattle.case.specs.law.Judged.{row_questions}
use Rattle.case.specs.law.NodeFields.{all_node_fields}
use Rattle.case.specs.law.StationFields.{station_fields, all_station_fields}
use Rattle.case.specs.law.TimeFields.{time_fields}

-- 10 and 11 past the head
unfoldable pub rows : Unit {0}
unfolding row_questions time_fields all_node_fields all_arc_fields
rows = tt

-- and of every station's rows
unfoldable pub stations : Unit {0}
unfolding station_fields all_station_fields
stations = tt
