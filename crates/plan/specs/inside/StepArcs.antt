-- An arc of a step: what has been answered yes before it is read, and what is asked of it.
use Rattle.std.specs.Prelude.{◌≡◌, List, ℕ, ◌<◌, ℤ, Ok}
use Rattle.numbers.specs.law.Question.{Question, first_no}
use Rattle.case.specs.law.Layout.{number_at, nodes_of, arcs_of}
use Rattle.case.specs.law.Records.{arc_of}
use Rattle.plan.specs.declared.step.Step.{Step}
use Rattle.plan.specs.law.PlanRecords.{arc_row}
use Rattle.plan.specs.law.Setting.{station_offset}
use Rattle.plan.specs.law.Pipes.{pipe_residual, pressure_balance}
use Rattle.plan.specs.law.ArcRules.{flow_questions, pressure_questions, pipe_questions, arc_questions, all_arc_questions}
use Rattle.plan.specs.inside.Sizes.{ArcRowSized, MachinesSized}

-- what is asked of an arc, and of all arcs
abbrev pub flows_asked : Step → ℕ → List Question
flows_asked s e = flow_questions s.case.list.now s.rows.now s.i e

abbrev pub pressures_asked : Step → ℕ → List Question
pressures_asked s e = pressure_questions s.case.list.now s.rows.now s.i e

abbrev pub pipes_asked : Step → ℕ → List Question
pipes_asked s e = pipe_questions s.case.list.now (number_at s.old.now) s.rows.now s.i e

abbrev pub arc_asked : Step → ℕ → List Question
arc_asked s e = arc_questions s.case.list.now (number_at s.old.now) s.rows.now s.i e

abbrev pub arcs_asked : Step → List Question
arcs_asked s = all_arc_questions s.case.list.now (number_at s.old.now) s.rows.now s.i

-- past 24 and 25: an arc that both have let pass
pub record PastFlows (s : Step) (e : ℕ) : Type 0 where
  pub arc : e < arcs_of s.case.list.now
  pub yes : first_no (flows_asked s e) ≡ Ok tt

-- an arc that is compressing from node u to node w, and the rows of its station from `offset` on
pub record Compresses (s : Step) (offset e u w : ℕ) : Type 0 where
  pub arc : e < arcs_of s.case.list.now
  pub offset_of : offset ≡ station_offset s.case.list.now e
  pub machines : MachinesSized s.case.list.now offset
  pub in_node : u < nodes_of s.case.list.now
  pub out_node : w < nodes_of s.case.list.now

-- past 24: an arc whose flows are in range
pub record AtFlow (s : Step) (e : ℕ) : Type 0 where
  pub arc : e < arcs_of s.case.list.now
  pub flows : ArcRowSized (arc_row s.case.list.now s.rows.now e)

-- such an arc that is a pipe
pub record AtPipe (s : Step) (e : ℕ) : Type 0 where
  pub at : AtFlow s e
  pub pipe : (arc_of s.case.list.now e).kind ≡ 2

-- the left side of 28, and the inner side of 29
abbrev pub residual_in : Step → ℕ → ℕ
residual_in s e = pipe_residual s.case.list.now (number_at s.old.now) s.rows.now s.i e

abbrev pub balance_in : Step → ℕ → ℤ
balance_in s e = pressure_balance s.case.list.now s.rows.now e
