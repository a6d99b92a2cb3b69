-- The rows of one step as records, read off the step's part of the plan.
-- Assumes nothing.
use Rattle.std.specs.Prelude.{Bool, List, ℕ, ◌+◌, ℤ, pos}
use Rattle.std.specs.Int.Signed.{le_z}
use Rattle.numbers.specs.law.Signed.{pos_part}
use Rattle.case.specs.law.Layout.{number_at}
use Rattle.plan.specs.declared.rows.NodeRow.{NodeRow}
use Rattle.plan.specs.declared.rows.ArcRow.{ArcRow}
use Rattle.plan.specs.declared.rows.Choice.{Choice}
use Rattle.plan.specs.law.PlanLayout.{node_row_at, arc_row_at, station_row_at}

-- "p is pressure, d the actual boundary flow, s the demand slacks, u the pressure slacks"
abbrev pub node_row : List ℤ → ℕ → NodeRow
node_row rows v = record {
  p = number_at rows (node_row_at v);
  d = number_at rows (node_row_at v + 1);
  splus = number_at rows (node_row_at v + 2);
  sminus = number_at rows (node_row_at v + 3);
  uplus = number_at rows (node_row_at v + 4);
  uminus = number_at rows (node_row_at v + 5);
}

-- "a and b are forward and backward flow; for a pipe, a goes in at from and b comes out at to"
abbrev pub arc_row : List ℤ → List ℤ → ℕ → ArcRow
arc_row case rows e = record {
  a = number_at rows (arc_row_at case e);
  b = number_at rows (arc_row_at case e + 1);
  setting = number_at rows (arc_row_at case e + 2);
  machines = number_at rows (arc_row_at case e + 3);
}

-- a station's direction and state
abbrev pub choice_of : List ℤ → List ℤ → ℕ → Choice
choice_of case rows s = record {
  direction = number_at rows (station_row_at case s);
  state = number_at rows (station_row_at case s + 1);
}

-- ---- what the following step asks of this one

abbrev pub pressure_in : List ℤ → ℕ → ℤ
pressure_in rows v = (node_row rows v).p

-- "Active means setting above 0."
abbrev pub active_in : List ℤ → List ℤ → ℕ → Bool
active_in case rows e = le_z (pos 1) (arc_row case rows e).setting

abbrev pub direction_in : List ℤ → List ℤ → ℕ → ℕ
direction_in case rows s = pos_part (choice_of case rows s).direction

abbrev pub state_in : List ℤ → List ℤ → ℕ → ℕ
state_in case rows s = pos_part (choice_of case rows s).state
