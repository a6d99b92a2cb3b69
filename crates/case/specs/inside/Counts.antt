-- What the functions inside hand each other: counts as they are read, and counts that the questions have let pass.
-- Assumes nothing.
use Rattle.std.specs.Prelude.{◌≡◌, List, ℕ, ◌<◌, ◌≤◌, ◌^◌, ℤ}
use Rattle.case.specs.law.Extents.{most_nodes, node_capacity, arc_capacity, machine_extent}
use Rattle.case.specs.law.Layout.{count_at, nodes_of, arcs_of, stations_of, steps_of, direction_count, state_count, machine_count, station_at}
use Rattle.case.specs.law.Layout.{machine_width, machine_at}
use Rattle.case.specs.law.Records.{direction_row}
use Rattle.case.specs.inside.Ranges.{DirectionRanges}
use Rattle.case.specs.law.StationArcs.{station_arcs}

-- a number that was read as a count
pub record Counts (case : List ℤ) (i r : ℕ) : Type 0 where
  pub value : r ≡ count_at case i
  pub small : r < 2 ^ 63

-- the head's counts
pub record Counted (case : List ℤ) : Type 0 where
  pub in_limit : nodes_of case ≤ most_nodes case
  pub nodes : nodes_of case ≤ node_capacity
  pub some_node : 1 ≤ nodes_of case
  pub arcs : arcs_of case ≤ arc_capacity
  pub stations : stations_of case ≤ 8
  pub steps : steps_of case ≤ 48
  pub some_step : 1 ≤ steps_of case

-- the counts of the station whose rows begin at `offset`
pub record StationCounted (case : List ℤ) (offset : ℕ) : Type 0 where
  pub directions : direction_count case offset ≤ 8
  pub some_direction : 1 ≤ direction_count case offset
  pub states : state_count case offset ≤ 16
  pub some_state : 1 ≤ state_count case offset
  pub machines : machine_count case offset ≤ 12

pub record StationsCounted (case : List ℤ) : Type 0 where
  pub each : (s : ℕ) → s < stations_of case → StationCounted case (station_at case s)

-- the machines' rows of the station whose rows begin at `offset`, and of every station: none is wider than the extent
pub record MachinesNarrow (case : List ℤ) (offset : ℕ) : Type 0 where
  pub each : (m : ℕ) → m < machine_count case offset → machine_width case (machine_at case offset m) ≤ machine_extent

pub record StationsNarrow (case : List ℤ) : Type 0 where
  pub each : (s : ℕ) → s < stations_of case → MachinesNarrow case (station_at case s)

-- the directions of the station whose rows begin at `offset`, and of every station
pub record DirectionsRanged (case : List ℤ) (offset : ℕ) : Type 0 where
  pub each : (f : ℕ) → f < direction_count case offset → DirectionRanges (direction_row case offset f)

pub record StationsRanged (case : List ℤ) : Type 0 where
  pub each : (s : ℕ) → s < stations_of case → DirectionsRanged case (station_at case s)

-- what 15 has let pass
pub record Sized (case : List ℤ) : Type 0 where
  pub each : (s : ℕ) → s < stations_of case → station_arcs case s ≤ 30
