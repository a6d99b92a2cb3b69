-- Nodes, arcs and stations as records, read off the list. Counts, indices, kinds and weights are naturals, all else is signed.
-- Assumes nothing.
use Rattle.std.specs.Prelude.{List, ℕ, zero, suc, ℤ, pos}
use Rattle.case.specs.declared.records.Node.{Node}
use Rattle.case.specs.declared.records.Arc.{Arc}
use Rattle.case.specs.declared.records.Pipe.{Pipe}
use Rattle.case.specs.declared.records.Artificial.{Artificial}
use Rattle.case.specs.declared.records.Station.{Station}
use Rattle.case.specs.declared.records.Direction.{Direction}
use Rattle.case.specs.declared.records.State.{State}
use Rattle.case.specs.declared.records.Machine.{Machine}
use Rattle.case.specs.law.Layout.{number_at, count_at, time_at, node_at, arc_at, direction_at, state_at, machine_at, station_at, node_kind_at, p0_at}
use Rattle.case.specs.law.Layout.{bounds_at, demand_at, low_at, high_at, actlow_at, acthigh_at, arc_kind_at, from_at, to_at, qmax_at, c_at, f_at, g_at, h_at}
use Rattle.case.specs.law.Layout.{arc_station_at, bothways_at, arc_weight_at, start_activity_at, machine_set_at, most_machines_at, outbound_at}
use Rattle.case.specs.law.Layout.{direction_count_at, state_count_at, machine_count_at, start_direction_at, start_state_at, entry_at, exit_at}
use Rattle.case.specs.law.Layout.{direction_weight_at, direction_set_at, on_at, off_at, state_weight_at, machine_flow_at, ratio_at}

-- the time at which the step with index i ends
abbrev pub time_of : List ℤ → ℕ → ℤ
time_of case i = number_at case (time_at i)

-- the time at which it begins: "time 0 is 0"
abbrev pub time_before : List ℤ → ℕ → ℤ
time_before case zero = pos 0
time_before case (suc i) = time_of case i

-- a node, with its bounds and its demand in the step with index i
abbrev pub node_of : List ℤ → ℕ → ℕ → Node
node_of case v i = record {
  kind = count_at case (node_kind_at (node_at case v));
  p0 = number_at case (p0_at (node_at case v));
  low = number_at case (low_at (bounds_at case v i));
  high = number_at case (high_at (bounds_at case v i));
  actlow = number_at case (actlow_at (bounds_at case v i));
  acthigh = number_at case (acthigh_at (bounds_at case v i));
  demand = number_at case (demand_at case v i);
}

-- an arc: the fields of every kind
abbrev pub arc_of : List ℤ → ℕ → Arc
arc_of case e = record {
  kind = count_at case (arc_kind_at (arc_at case e));
  from = count_at case (from_at (arc_at case e));
  to = count_at case (to_at (arc_at case e));
  qmax = number_at case (qmax_at (arc_at case e));
}

-- the other seven of a pipe, of which three are zeros
abbrev pub pipe_of : List ℤ → ℕ → Pipe
pipe_of case e = record {
  c = number_at case (c_at (arc_at case e));
  f = number_at case (f_at (arc_at case e));
  g = number_at case (g_at (arc_at case e));
  h = number_at case (h_at (arc_at case e));
}

-- the other seven of an artificial arc; the last three are zeros for kinds 3 and 4
abbrev pub artificial_of : List ℤ → ℕ → Artificial
artificial_of case e = record {
  station = count_at case (arc_station_at (arc_at case e));
  bothways = count_at case (bothways_at (arc_at case e));
  weight = count_at case (arc_weight_at (arc_at case e));
  active = count_at case (start_activity_at (arc_at case e));
  machines = number_at case (machine_set_at (arc_at case e));
  most = count_at case (most_machines_at (arc_at case e));
  outbound = number_at case (outbound_at (arc_at case e));
}

-- ---- a station's records, by the index `offset` of its first number; the station s has `station_at case s`

abbrev pub station_row : List ℤ → ℕ → Station
station_row case offset = record {
  directions = count_at case (direction_count_at offset);
  states = count_at case (state_count_at offset);
  machines = count_at case (machine_count_at offset);
  direction = count_at case (start_direction_at offset);
  state = count_at case (start_state_at offset);
}

abbrev pub direction_row : List ℤ → ℕ → ℕ → Direction
direction_row case offset f = record {
  entry = number_at case (entry_at (direction_at case offset f));
  exit = number_at case (exit_at (direction_at case offset f));
  weight = count_at case (direction_weight_at (direction_at case offset f));
}

abbrev pub state_row : List ℤ → ℕ → ℕ → State
state_row case offset z = record {
  directions = number_at case (direction_set_at (state_at case offset z));
  on = number_at case (on_at (state_at case offset z));
  off = number_at case (off_at (state_at case offset z));
  weight = count_at case (state_weight_at (state_at case offset z));
}

-- the machine whose row begins at `at`
abbrev pub machine_from : List ℤ → ℕ → Machine
machine_from case at = record {
  flow = number_at case (machine_flow_at at);
  ratio = number_at case (ratio_at at);
}

abbrev pub machine_row : List ℤ → ℕ → ℕ → Machine
machine_row case offset m = machine_from case (machine_at case offset m)

abbrev pub station_of : List ℤ → ℕ → Station
station_of case s = station_row case (station_at case s)

abbrev pub direction_of : List ℤ → ℕ → ℕ → Direction
direction_of case s f = direction_row case (station_at case s) f

abbrev pub state_of : List ℤ → ℕ → ℕ → State
state_of case s z = state_row case (station_at case s) z
