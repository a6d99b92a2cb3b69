-- "Station (each with all its rows before the following one): directions F 1..8, states Z 1..16, machines M 0..12, direction at step 0 (0..F-1),
-- state at step 0 (0..Z-1). Then F rows: entry set, exit set (0..2^60-1), weight. Z rows: direction set 0..2^F-1, on set, off set (0..2^30-1), weight.
-- M rows: flow Q 0..10,000,000, ratio R 1,001..10,000. Weights are 0..1,000,000."
-- Assumes nothing.
use Rattle.std.specs.Prelude.{List, ◌++◌, ℕ, ◌-◌, ◌^◌, ℤ, pos}
use Rattle.numbers.specs.law.Question.{Question}
use Rattle.numbers.specs.law.Items.{over}
use Rattle.case.specs.law.Layout.{direction_count, state_count, machine_count, direction_at, state_at, machine_at, station_at, stations_of}
use Rattle.case.specs.law.Layout.{direction_count_at, state_count_at, machine_count_at, start_direction_at, start_state_at, entry_at, direction_weight_at}
use Rattle.case.specs.law.Layout.{direction_set_at, on_at, state_weight_at, machine_flow_at, ratio_at}
use Rattle.case.specs.law.Extents.{set_room}
use Rattle.case.specs.law.Field.{field, fields, last_of, most_flow, most_weight}

-- the set of the first n items
abbrev pub first_items : ℕ → ℤ
first_items n = pos (2 ^ n - 1)

unfoldable pub station_head : List ℤ → ℕ → List Question
station_head case offset =
    field case (direction_count_at offset) (pos 1) (pos 8)
    ++ (field case (state_count_at offset) (pos 1) (pos 16)
    ++ (field case (machine_count_at offset) (pos 0) (pos 12)
    ++ (field case (start_direction_at offset) (pos 0) (last_of (direction_count case offset))
    ++ field case (start_state_at offset) (pos 0) (last_of (state_count case offset)))))

-- entry set, exit set, weight
unfoldable pub direction_fields : List ℤ → ℕ → ℕ → List Question
direction_fields case offset f =
    fields case (entry_at (direction_at case offset f)) 2 (pos 0) (first_items set_room)
    ++ field case (direction_weight_at (direction_at case offset f)) (pos 0) most_weight

-- direction set, on set, off set, weight of the row that begins at `offset`; `most` is the largest direction set
unfoldable pub state_row_fields : List ℤ → ℕ → ℤ → List Question
state_row_fields case offset most =
    field case (direction_set_at offset) (pos 0) most
    ++ (fields case (on_at offset) 2 (pos 0) (first_items 30)
    ++ field case (state_weight_at offset) (pos 0) most_weight)

unfoldable pub state_fields : List ℤ → ℕ → ℕ → List Question
state_fields case offset z = state_row_fields case (state_at case offset z) (first_items (direction_count case offset))

-- Q and R
unfoldable pub machine_fields : List ℤ → ℕ → ℕ → List Question
machine_fields case offset m =
    field case (machine_flow_at (machine_at case offset m)) (pos 0) most_flow
    ++ field case (ratio_at (machine_at case offset m)) (pos 1001) (pos 10000)

-- the rows past the station's first
unfoldable pub part_fields : List ℤ → ℕ → List Question
part_fields case offset =
    over (direction_fields case offset) 0 (direction_count case offset)
    ++ (over (state_fields case offset) 0 (state_count case offset)
    ++ over (machine_fields case offset) 0 (machine_count case offset))

-- all rows of the station whose first number has the index `offset`
unfoldable pub row_fields : List ℤ → ℕ → List Question
row_fields case offset = station_head case offset ++ part_fields case offset

unfoldable pub station_fields : List ℤ → ℕ → List Question
station_fields case s = row_fields case (station_at case s)

unfoldable pub all_station_fields : List ℤ → List Question
all_station_fields case = over (station_fields case) 0 (stations_of case)
