-- Where rows begin: each where the one before it ends.
-- Assumes nothing.
use Rattle.case.proofs.Common.{arith, ◌≡◌}
use mathlib.Core.List.{List}
use Prim.Native.Nat.{ℕ, ◌+◌, ◌*◌}
use lib.IntN.{ℤ}
use Rattle.case.specs.law.Layout.{steps_of, node_at, direction_at, state_at}
use Rattle.case.specs.law.Layout.{node_width, direction_count, direction_width}
use Rattle.case.specs.inside.CountsInRange.{machine_narrow, row_counted, row_narrow}
use Rattle.case.specs.inside.Places.{node_next, node_width_lem, direction_next, direction_width_lem, state_early, machine_next, machine_early}
use Rattle.case.specs.inside.Places.{machines_begin, station_next, end_most}

module _ (l : List ℤ) where
  pub node_place : (v : ℕ) → node_at l v ≡ 7 + steps_of l + v * node_width l
  unfolding node_at
  node_place v = omega arith

  pub direction_place : (offset f : ℕ) → direction_at l offset f ≡ offset + 5 + f * direction_width l
  unfolding direction_at
  direction_place offset f = omega arith

  pub state_place : (offset z : ℕ) → state_at l offset z ≡ offset + 5 + direction_count l offset * direction_width l + z * 4
  unfolding state_at direction_at
  state_place offset z = omega arith

-- nodes, directions and states, whose rows have one width each
pub ruleset node_laws = (node_place, node_next, node_width_lem)

pub ruleset direction_laws = (direction_place, direction_next, direction_width_lem)

pub ruleset state_laws = (state_place, direction_width_lem, state_early)

-- a machine's row begins where the one before it ends, and is narrow
pub ruleset machine_laws = (machine_next, machine_narrow, machine_early, machines_begin)

-- what a station's rows without a "no" say of it, and where the next station begins
pub ruleset station_laws = (row_counted, row_narrow, station_next, end_most)
