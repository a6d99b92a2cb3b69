-- "Arc row, 11 fields: kind, from and to (each 0..N-1), qmax 0..10,000,000, then seven more."
-- Kinds: 0 valve, 1 regulator, 2 pipe, 3 shortcut, 4 regulating, 5 compressor, 6 combined.
-- Assumes nothing.
use Rattle.std.specs.Prelude.{cond, List, ◌++◌, ℕ, eqb, leb, ℤ, pos, negsuc}
use Rattle.numbers.specs.law.Question.{Question}
use Rattle.numbers.specs.law.Items.{over}
use Rattle.case.specs.law.Layout.{count_at, nodes_of, arcs_of, stations_of, arc_at, arc_kind_at, from_at, qmax_at, seven_at, c_at, f_at, h_at, pipe_zeros_at}
use Rattle.case.specs.law.Layout.{arc_station_at, bothways_at, arc_weight_at, start_activity_at, machine_set_at, most_machines_at, outbound_at}
use Rattle.case.specs.law.Field.{field, fields, last_of, most_pressure, most_flow, most_weight}

-- n fields from i on that are to be 0
abbrev pub zeros : List ℤ → ℕ → ℕ → List Question
zeros case i n = fields case i n (pos 0) (pos 0)

-- kind, from and to, qmax
unfoldable pub end_fields : List ℤ → ℕ → List Question
end_fields case offset =
    field case (arc_kind_at offset) (pos 0) (pos 6)
    ++ (fields case (from_at offset) 2 (pos 0) (last_of (nodes_of case))
    ++ field case (qmax_at offset) (pos 0) most_flow)

-- "2: c 1..100,000,000; f and g 0..10,000,000; h -200,000..200,000; three zeros"
unfoldable pub pipe_fields : List ℤ → ℕ → List Question
pipe_fields case offset =
    field case (c_at offset) (pos 1) (pos 100000000)
    ++ (fields case (f_at offset) 2 (pos 0) (pos 10000000)
    ++ (field case (h_at offset) (negsuc 199999) (pos 200000)
    ++ zeros case (pipe_zeros_at offset) 3))

-- "shortcut: 1"
abbrev pub least_both_ways : ℕ → ℤ
least_both_ways kind = cond (eqb kind 3) (pos 1) (pos 0)

-- "3, 4: station 0..S-1; both-ways 0 or 1; weight 0..1,000,000; active at step 0, 0 or 1"
unfoldable pub member_fields : List ℤ → ℕ → List Question
member_fields case offset =
    field case (arc_station_at offset) (pos 0) (last_of (stations_of case))
    ++ (field case (bothways_at offset) (least_both_ways (count_at case (arc_kind_at offset))) (pos 1)
    ++ (field case (arc_weight_at offset) (pos 0) most_weight
    ++ field case (start_activity_at offset) (pos 0) (pos 1)))

-- "5, 6: machine set 0..4,095; most machines 0..12; out bound 0..200,000"
unfoldable pub compressor_fields : List ℤ → ℕ → List Question
compressor_fields case offset =
    field case (machine_set_at offset) (pos 0) (pos 4095)
    ++ (field case (most_machines_at offset) (pos 0) (pos 12)
    ++ field case (outbound_at offset) (pos 0) most_pressure)

-- the seven, by the kind
unfoldable pub kind_fields : List ℤ → ℕ → List Question
kind_fields case offset =
    cond (leb (count_at case (arc_kind_at offset)) 1) (zeros case (seven_at offset) 7)
    (cond (eqb (count_at case (arc_kind_at offset)) 2) (pipe_fields case offset)
    (member_fields case offset ++ cond (leb (count_at case (arc_kind_at offset)) 4) (zeros case (machine_set_at offset) 3) (compressor_fields case offset)))

unfoldable pub arc_fields : List ℤ → ℕ → List Question
arc_fields case e = end_fields case (arc_at case e) ++ kind_fields case (arc_at case e)

unfoldable pub all_arc_fields : List ℤ → List Question
all_arc_fields case = over (arc_fields case) 0 (arcs_of case)
