-- Where in the judging a function inside stands: what has been answered yes before it is called.
use Rattle.std.specs.Prelude.{◌≡◌, true, List, ℕ, ◌<◌, ◌≤◌, ℤ, length, Ok}
use Rattle.numbers.specs.law.Question.{first_no}
use Rattle.case.specs.law.Layout.{number_at, nodes_of, arcs_of, stations_of, steps_of}
use Rattle.case.specs.law.Judged.{case_questions}
use Rattle.plan.specs.law.PlanLayout.{step_at}
use Rattle.plan.specs.law.PlanRecords.{arc_row, direction_in, state_in}
use Rattle.case.specs.law.Records.{arc_of, artificial_of, station_of}
use Rattle.plan.specs.inside.Sizes.{PressuresSized, FlowsSized, NodesSized}
use Rattle.plan.specs.law.ArcFlows.{machines_within}
use Rattle.plan.specs.law.Balance.{node_residual}
use Rattle.plan.specs.law.Totals.{pipe_part}

pub record AcceptedCase (case : List ℤ) : Type 0 where
  pub yes : first_no (case_questions case) ≡ Ok tt

-- 24 and 17: the machines of every arc that is a station's are the station's own
pub record MachinesKept (case rows : List ℤ) : Type 0 where
  pub each : (e : ℕ) → e < arcs_of case → machines_within (arc_of case e).kind (artificial_of case e).machines (arc_row case rows e).machines ≡ true

-- 30: every station's direction and state are its own
pub record ChoicesKept (case rows : List ℤ) : Type 0 where
  pub direction : (s : ℕ) → s < stations_of case → direction_in case rows s < (station_of case s).directions
  pub state : (s : ℕ) → s < stations_of case → state_in case rows s < (station_of case s).states

-- a step of which every question has been answered yes
pub record StepKept (case old rows : List ℤ) (i : ℕ) : Type 0 where
  pub before : PressuresSized (number_at old) (nodes_of case)
  pub node_rows : NodesSized case rows
  pub flows : FlowsSized case rows
  pub machines : MachinesKept case rows
  pub choices : ChoicesKept case rows
  pub pipes : (e : ℕ) → e < arcs_of case → pipe_part case (number_at old) rows i e ≤ 1000000
  pub nodes : (v : ℕ) → v < nodes_of case → node_residual case rows i v ≤ 1000000

-- a plan that 20 has let pass
pub record PlanLaid (case plan : List ℤ) : Type 0 where
  pub long : length plan ≡ step_at case (steps_of case)
