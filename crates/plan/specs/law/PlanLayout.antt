-- Where the numbers of a plan stand: "1, k, then for each step: N node rows, A arc rows, S station rows".
-- Steps go by index from 0 here: index i is document 01's step i + 1. All is total: a number past the end reads as 0.
-- Assumes nothing.
use Rattle.std.specs.Prelude.{List, ℕ, ◌+◌, ◌*◌, ℤ, take, drop}
use Rattle.case.specs.law.Layout.{nodes_of, arcs_of, stations_of}

abbrev pub plan_head_width : ℕ
plan_head_width = 2

-- p, d, s+, s-, u+, u-
abbrev pub node_row_width : ℕ
node_row_width = 6

-- a, b, setting, machines
abbrev pub arc_row_width : ℕ
arc_row_width = 4

-- direction, state
abbrev pub station_row_width : ℕ
station_row_width = 2

-- 6N + 4A + 2S
unfoldable pub step_width : List ℤ → ℕ
step_width case = nodes_of case * node_row_width + arcs_of case * arc_row_width + stations_of case * station_row_width

unfoldable pub step_at : List ℤ → ℕ → ℕ
step_at case i = plan_head_width + i * step_width case

-- the part of the plan that is the step's
unfoldable pub step_rows : List ℤ → List ℤ → ℕ → List ℤ
step_rows case plan i = take (step_width case) (drop (step_at case i) plan)

-- ---- in the part of one step

abbrev pub node_row_at : ℕ → ℕ
node_row_at v = v * node_row_width

abbrev pub arc_row_at : List ℤ → ℕ → ℕ
arc_row_at case e = nodes_of case * node_row_width + e * arc_row_width

abbrev pub station_row_at : List ℤ → ℕ → ℕ
station_row_at case s = nodes_of case * node_row_width + arcs_of case * arc_row_width + s * station_row_width
