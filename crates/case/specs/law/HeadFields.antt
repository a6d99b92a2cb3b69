-- "Head, 7 fields: edition 1; N nodes 1..60; A arcs 0..120; S stations 0..8; k steps 1..48; E mass tolerance 0..1,000,000; H pressure tolerance 0..1,000."
-- Assumes nothing.
use Rattle.std.specs.Prelude.{List, ◌++◌, ℤ, pos}
use Rattle.numbers.specs.law.Question.{Question}
use Rattle.case.specs.law.Layout.{edition_at, node_count_at, arc_count_at, station_count_at, step_count_at, mass_tolerance_at, pressure_tolerance_at}
use Rattle.case.specs.law.Extents.{last_edition, most_nodes, most_arcs}
use Rattle.case.specs.law.Field.{field}

-- edition, N, A, S, k
unfoldable pub count_fields : List ℤ → List Question
count_fields case =
    field case edition_at (pos 1) (pos last_edition)
    ++ (field case node_count_at (pos 1) (pos (most_nodes case))
    ++ (field case arc_count_at (pos 0) (pos (most_arcs case))
    ++ (field case station_count_at (pos 0) (pos 8)
    ++ field case step_count_at (pos 1) (pos 48))))

-- E and H
unfoldable pub tolerance_fields : List ℤ → List Question
tolerance_fields case = field case mass_tolerance_at (pos 0) (pos 1000000) ++ field case pressure_tolerance_at (pos 0) (pos 1000)

unfoldable pub head_fields : List ℤ → List Question
head_fields case = count_fields case ++ tolerance_fields case
