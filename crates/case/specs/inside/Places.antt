-- Where rows begin, each where the one before it ends, and that no row reaches past the extents: places are sums and products of counts that are in range.
-- Assumes nothing.
use Rattle.std.specs.Prelude.{◌≡◌, List, ℤ}
use Rattle.std.proofs.Math.Path.{refl}
use Prim.Native.Nat.{ℕ, zero, suc, ◌+◌, ◌*◌, ◌<◌, ◌≤◌}
use Rattle.std.proofs.Math.Nat.{mul-le-mul}
use Rattle.std.proofs.Common.{add-one}
use native.Mathlib.Omega.{arith}
use Rattle.case.specs.law.Extents.{most_nodes, most_arcs, node_capacity, arc_capacity, node_extent, direction_extent, machine_extent, station_extent}
use Rattle.case.specs.law.Extents.{set_room, arcs_extent, stations_extent}
use Rattle.case.specs.law.Layout.{nodes_of, arcs_of, steps_of, node_width, node_at, bounds_in}
use Rattle.case.specs.law.Layout.{demand_in, arc_at, direction_width, direction_at, state_at, machine_width, machine_at}
use Rattle.case.specs.law.Layout.{direction_count, state_count, machine_count, station_end, station_at}
use Rattle.case.specs.inside.Counts.{Counted, StationCounted, MachinesNarrow}

module _ (case : List ℤ) where
  -- ---- an edition's limits, and the widths of rows

  pub nodes_fit : most_nodes case ≤ node_capacity
  unfolding most_nodes
  nodes_fit = omega arith

  pub arcs_fit : most_arcs case ≤ arc_capacity
  unfolding most_arcs
  arcs_fit = omega arith

  -- a set has room for every node
  pub nodes_in_set : Counted case → nodes_of case ≤ set_room
  unfolding most_nodes
  nodes_in_set c = omega (arith, c.in_limit)

  pub node_width_lem : steps_of case ≤ 48 → node_width case ≤ node_extent
  unfolding node_width
  node_width_lem h = omega arith

  pub same_bounds : (i : ℕ) → bounds_in case i ≡ bounds_in case 0
  unfolding bounds_in
  same_bounds i = refl

  -- a step's bounds stand before its demand
  pub bounds_before : (i : ℕ) → bounds_in case i + 4 ≤ demand_in case i
  unfolding bounds_in demand_in
  bounds_before i = omega arith

  pub direction_width_lem : direction_width case ≤ direction_extent
  unfolding direction_width
  direction_width_lem = omega arith

  -- ---- each row begins where the one before it ends

  pub node_next : (v : ℕ) → node_at case (v + 1) ≡ node_at case v + node_width case
  unfolding node_at
  node_next v = omega arith

  pub direction_next : (offset f : ℕ) → direction_at case offset (f + 1) ≡ direction_at case offset f + direction_width case
  unfolding direction_at
  direction_next offset f = omega arith

  pub machine_next : (offset m : ℕ) → machine_at case offset (m + 1) ≡ machine_at case offset m + machine_width case (machine_at case offset m)
  unfolding machine_at
  machine_next offset m = rw (add-one m)

  pub station_next : (s : ℕ) → station_at case (s + 1) ≡ station_end case (station_at case s)
  unfolding station_at
  station_next s = rw (add-one s)

  -- ---- no row reaches past the extents

  pub node_early : Counted case → (v : ℕ) → v ≤ node_capacity → node_at case v ≤ arcs_extent
  unfolding node_at
  node_early c v h = omega (arith, mul-le-mul h (node_width_lem c.steps), c.steps)

  pub arc_early : Counted case → (e : ℕ) → e ≤ arc_capacity → arc_at case e ≤ stations_extent
  unfolding arc_at
  arc_early c e h = omega (arith, node_early c (nodes_of case) c.nodes)

  pub arcs_begin : Counted case → arc_at case 0 ≤ arcs_extent
  unfolding arc_at
  arcs_begin c = omega (arith, node_early c (nodes_of case) c.nodes)

  pub stations_begin : Counted case → station_at case 0 ≤ stations_extent
  unfolding station_at
  stations_begin c = arc_early c (arcs_of case) c.arcs

  pub direction_early : (offset f : ℕ) → f ≤ 8 → direction_at case offset f ≤ offset + 5 + 8 * direction_extent
  unfolding direction_at
  direction_early offset f h = omega (arith, mul-le-mul h direction_width_lem)

  module _ (offset : ℕ) (c : StationCounted case offset) where
    pub state_early : (z : ℕ) → z ≤ 16 → state_at case offset z ≤ offset + 5 + 8 * direction_extent + 16 * 4
    unfolding state_at
    state_early z h = omega (arith, direction_early offset (direction_count case offset) c.directions)

    pub machines_begin : machine_at case offset 0 ≤ offset + 5 + 8 * direction_extent + 16 * 4
    unfolding machine_at
    machines_begin = state_early (state_count case offset) c.states

    -- where no machine's row before that of m is wider than the extent
    pub machine_early : (m : ℕ) → ((j : ℕ) → j < m → machine_width case (machine_at case offset j) ≤ machine_extent)
        → machine_at case offset m ≤ offset + 5 + 8 * direction_extent + 16 * 4 + m * machine_extent
    unfolding machine_at
    machine_early zero h = omega (arith, machines_begin)
    machine_early (suc m) h = omega (arith, machine_early m (λ j l. h j (omega arith)), h m (omega arith))

    pub end_most : MachinesNarrow case offset → station_end case offset ≤ offset + station_extent
    end_most n = omega (arith, machine_early (machine_count case offset) n.each, c.machines)

  pub machine_late : (offset m : ℕ) → state_at case offset (state_count case offset) ≤ machine_at case offset m
  unfolding machine_at
  machine_late offset zero = omega arith
  machine_late offset (suc m) = omega (arith, machine_late offset m)

  pub end_least : (offset : ℕ) → offset + 5 ≤ station_end case offset
  unfolding state_at direction_at
  end_least offset = omega (arith, machine_late offset (machine_count case offset))
