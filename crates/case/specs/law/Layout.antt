-- Where the numbers of a case stand: each width and each field's offset by its name, which ranges and records use.
-- All is total: a number past the end reads as 0 and a negative count as 0. Whether the fields are there and in range is asked by 10 and 11.
-- Assumes nothing.
use Rattle.std.specs.Prelude.{List, ℕ, zero, suc, ◌+◌, ◌*◌, ℤ, pos, get_or}
use Rattle.numbers.specs.law.Signed.{pos_part}

-- the number at index i
abbrev pub number_at : List ℤ → ℕ → ℤ
number_at case i = get_or case i (pos 0)

-- a number that counts something or is an index
abbrev pub count_at : List ℤ → ℕ → ℕ
count_at case i = pos_part (number_at case i)

-- ---- head, 7 fields: edition, N, A, S, k, E, H

abbrev pub head_width : ℕ
head_width = 7

abbrev pub edition_at : ℕ
edition_at = 0

abbrev pub node_count_at : ℕ
node_count_at = 1

abbrev pub arc_count_at : ℕ
arc_count_at = 2

abbrev pub station_count_at : ℕ
station_count_at = 3

abbrev pub step_count_at : ℕ
step_count_at = 4

abbrev pub mass_tolerance_at : ℕ
mass_tolerance_at = 5

abbrev pub pressure_tolerance_at : ℕ
pressure_tolerance_at = 6

abbrev pub edition_of : List ℤ → ℕ
edition_of case = count_at case edition_at

abbrev pub nodes_of : List ℤ → ℕ
nodes_of case = count_at case node_count_at

abbrev pub arcs_of : List ℤ → ℕ
arcs_of case = count_at case arc_count_at

abbrev pub stations_of : List ℤ → ℕ
stations_of case = count_at case station_count_at

abbrev pub steps_of : List ℤ → ℕ
steps_of case = count_at case step_count_at

abbrev pub mass_tolerance : List ℤ → ℤ
mass_tolerance case = number_at case mass_tolerance_at

abbrev pub pressure_tolerance : List ℤ → ℤ
pressure_tolerance case = number_at case pressure_tolerance_at

-- ---- times. Steps go by index from 0 here: index i is document 01's step i + 1.

abbrev pub time_at : ℕ → ℕ
time_at i = head_width + i

-- ---- node rows: kind, p0, low, high, actlow, acthigh, and a demand for each step

-- how many numbers a node's row has
unfoldable pub node_width : List ℤ → ℕ
node_width case = 6 + steps_of case

unfoldable pub node_at : List ℤ → ℕ → ℕ
node_at case v = head_width + steps_of case + v * node_width case

-- of the row that begins at `offset`
abbrev pub node_kind_at : ℕ → ℕ
node_kind_at offset = offset

abbrev pub p0_at : ℕ → ℕ
p0_at offset = offset + 1

-- how far into a row the bounds that hold in the step with index i begin, the same in every step, and how far into it the step's demand stands
unfoldable pub bounds_in : List ℤ → ℕ → ℕ
bounds_in case i = 2

unfoldable pub demand_in : List ℤ → ℕ → ℕ
demand_in case i = 6 + i

abbrev pub bounds_at : List ℤ → ℕ → ℕ → ℕ
bounds_at case v i = node_at case v + bounds_in case i

abbrev pub demand_at : List ℤ → ℕ → ℕ → ℕ
demand_at case v i = node_at case v + demand_in case i

-- of the four bounds that begin at `offset`
abbrev pub low_at : ℕ → ℕ
low_at offset = offset

abbrev pub high_at : ℕ → ℕ
high_at offset = offset + 1

abbrev pub actlow_at : ℕ → ℕ
actlow_at offset = offset + 2

abbrev pub acthigh_at : ℕ → ℕ
acthigh_at offset = offset + 3

-- ---- arc rows: kind, from, to, qmax, and seven that go by the kind

abbrev pub arc_width : ℕ
arc_width = 11

abbrev pub arc_kind_at : ℕ → ℕ
arc_kind_at offset = offset

abbrev pub from_at : ℕ → ℕ
from_at offset = offset + 1

abbrev pub to_at : ℕ → ℕ
to_at offset = offset + 2

abbrev pub qmax_at : ℕ → ℕ
qmax_at offset = offset + 3

abbrev pub seven_at : ℕ → ℕ
seven_at offset = offset + 4

-- of a pipe: c, f, g, h and three zeros
abbrev pub c_at : ℕ → ℕ
c_at offset = offset + 4

abbrev pub f_at : ℕ → ℕ
f_at offset = offset + 5

abbrev pub g_at : ℕ → ℕ
g_at offset = offset + 6

abbrev pub h_at : ℕ → ℕ
h_at offset = offset + 7

abbrev pub pipe_zeros_at : ℕ → ℕ
pipe_zeros_at offset = offset + 8

-- of an artificial arc: station, both-ways, weight, active at step 0; machine set, most machines, out bound
abbrev pub arc_station_at : ℕ → ℕ
arc_station_at offset = offset + 4

abbrev pub bothways_at : ℕ → ℕ
bothways_at offset = offset + 5

abbrev pub arc_weight_at : ℕ → ℕ
arc_weight_at offset = offset + 6

abbrev pub start_activity_at : ℕ → ℕ
start_activity_at offset = offset + 7

abbrev pub machine_set_at : ℕ → ℕ
machine_set_at offset = offset + 8

abbrev pub most_machines_at : ℕ → ℕ
most_machines_at offset = offset + 9

abbrev pub outbound_at : ℕ → ℕ
outbound_at offset = offset + 10

unfoldable pub arc_at : List ℤ → ℕ → ℕ
arc_at case e = node_at case (nodes_of case) + e * arc_width

-- ---- a station's rows. Its first, which begins at `offset`: F, Z, M, direction and state at step 0

abbrev pub station_head_width : ℕ
station_head_width = 5

abbrev pub direction_count_at : ℕ → ℕ
direction_count_at offset = offset

abbrev pub state_count_at : ℕ → ℕ
state_count_at offset = offset + 1

abbrev pub machine_count_at : ℕ → ℕ
machine_count_at offset = offset + 2

abbrev pub start_direction_at : ℕ → ℕ
start_direction_at offset = offset + 3

abbrev pub start_state_at : ℕ → ℕ
start_state_at offset = offset + 4

abbrev pub direction_count : List ℤ → ℕ → ℕ
direction_count case offset = count_at case (direction_count_at offset)

abbrev pub state_count : List ℤ → ℕ → ℕ
state_count case offset = count_at case (state_count_at offset)

abbrev pub machine_count : List ℤ → ℕ → ℕ
machine_count case offset = count_at case (machine_count_at offset)

-- a direction's row, which begins at `offset`: entry set, exit set, weight
unfoldable pub direction_width : List ℤ → ℕ
direction_width case = 3

abbrev pub entry_at : ℕ → ℕ
entry_at offset = offset

abbrev pub exit_at : ℕ → ℕ
exit_at offset = offset + 1

abbrev pub direction_weight_at : ℕ → ℕ
direction_weight_at offset = offset + 2

-- a state's: direction set, on set, off set, weight
abbrev pub state_width : ℕ
state_width = 4

abbrev pub direction_set_at : ℕ → ℕ
direction_set_at offset = offset

abbrev pub on_at : ℕ → ℕ
on_at offset = offset + 1

abbrev pub off_at : ℕ → ℕ
off_at offset = offset + 2

abbrev pub state_weight_at : ℕ → ℕ
state_weight_at offset = offset + 3

-- a machine's: flow Q, ratio R
unfoldable pub machine_width : List ℤ → ℕ → ℕ
machine_width case offset = 2

abbrev pub machine_flow_at : ℕ → ℕ
machine_flow_at offset = offset

abbrev pub ratio_at : ℕ → ℕ
ratio_at offset = offset + 1

-- where the rows of directions, states and machines begin, by the index `offset` of the station's first number

unfoldable pub direction_at : List ℤ → ℕ → ℕ → ℕ
direction_at case offset f = offset + station_head_width + f * direction_width case

unfoldable pub state_at : List ℤ → ℕ → ℕ → ℕ
state_at case offset z = direction_at case offset (direction_count case offset) + z * state_width

-- a machine's row begins where the one before it ends
unfoldable pub machine_at : List ℤ → ℕ → ℕ → ℕ
machine_at case offset zero = state_at case offset (state_count case offset)
machine_at case offset (suc m) = machine_at case offset m + machine_width case (machine_at case offset m)

-- the index past the station's last row
abbrev pub station_end : List ℤ → ℕ → ℕ
station_end case offset = machine_at case offset (machine_count case offset)

-- "Station (each with all its rows before the following one)"
unfoldable pub station_at : List ℤ → ℕ → ℕ
station_at case zero = arc_at case (arcs_of case)
station_at case (suc s) = station_end case (station_at case s)

-- the index past the last field
abbrev pub case_end : List ℤ → ℕ
case_end case = station_at case (stations_of case)
