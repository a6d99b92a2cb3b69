-- "Steps before 1 have p0 and the step-0 choices." Time t is the end of document 01's step t, and time 0 the start.
-- Assumes nothing.
use Rattle.std.specs.Prelude.{Bool, List, ℕ, zero, suc, ℤ}
use Rattle.case.specs.law.Records.{node_of, station_of}
use Rattle.case.specs.law.States.{active_at_start}
use Rattle.plan.specs.law.PlanLayout.{step_rows}
use Rattle.plan.specs.law.PlanRecords.{pressure_in, active_in, direction_in, state_in}

-- p0 is the pressure at time 0. The left side of 28 in step 1, which 28 asks and the residual sums, and the gas at 0 go by it. No other question of a plan
-- does.
abbrev pub start_pressure : List ℤ → ℕ → ℤ
start_pressure case v = (node_of case v 0).p0

abbrev pub start_direction : List ℤ → ℕ → ℕ
start_direction case s = (station_of case s).direction

abbrev pub start_state : List ℤ → ℕ → ℕ
start_state case s = (station_of case s).state

unfoldable pub pressure_at : List ℤ → List ℤ → ℕ → ℕ → ℤ
pressure_at case plan zero v = start_pressure case v
pressure_at case plan (suc i) v = pressure_in (step_rows case plan i) v

unfoldable pub active_at : List ℤ → List ℤ → ℕ → ℕ → Bool
active_at case plan zero e = active_at_start case e
active_at case plan (suc i) e = active_in case (step_rows case plan i) e

unfoldable pub direction_chosen : List ℤ → List ℤ → ℕ → ℕ → ℕ
direction_chosen case plan zero s = start_direction case s
direction_chosen case plan (suc i) s = direction_in case (step_rows case plan i) s

unfoldable pub state_chosen : List ℤ → List ℤ → ℕ → ℕ → ℕ
state_chosen case plan zero s = start_state case s
state_chosen case plan (suc i) s = state_in case (step_rows case plan i) s
