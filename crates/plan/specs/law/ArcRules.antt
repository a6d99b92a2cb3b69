-- 24 to 29, of one arc in one step. `old v` is the pressure of node v before the step.
-- Assumes nothing.
use Rattle.std.specs.Prelude.{List, [], ◌∷◌, ◌++◌, ℕ, ℤ}
use Rattle.numbers.specs.law.Question.{Question}
use Rattle.numbers.specs.law.Items.{over}
use Rattle.case.specs.law.Layout.{arcs_of}
use Rattle.case.specs.law.Records.{arc_of, artificial_of}
use Rattle.plan.specs.law.Compared.{asked}
use Rattle.plan.specs.law.PlanRecords.{arc_row}
use Rattle.plan.specs.law.ArcFlows.{arc_numbers_kept, flow_allowed}
use Rattle.plan.specs.law.ArcPressures.{pressures_kept}
use Rattle.plan.specs.law.ArcMachines.{machines_used}
use Rattle.plan.specs.law.Pipes.{pipe_mass_kept, pipe_pressures_kept}

-- 24 and 25
unfoldable pub flow_questions : List ℤ → List ℤ → ℕ → ℕ → List Question
flow_questions case rows i e =
    asked 24 i e (arc_numbers_kept (arc_of case e) (artificial_of case e) (arc_row case rows e))
    ∷ asked 25 i e (flow_allowed (arc_of case e) (arc_row case rows e))
    ∷ []

-- 26 and 27
unfoldable pub pressure_questions : List ℤ → List ℤ → ℕ → ℕ → List Question
pressure_questions case rows i e =
    asked 26 i e (pressures_kept case rows i e)
    ∷ asked 27 i e (machines_used case rows e)
    ∷ []

-- 28 and 29
unfoldable pub pipe_questions : List ℤ → (ℕ → ℤ) → List ℤ → ℕ → ℕ → List Question
pipe_questions case old rows i e =
    asked 28 i e (pipe_mass_kept case old rows i e)
    ∷ asked 29 i e (pipe_pressures_kept case rows e)
    ∷ []

unfoldable pub arc_questions : List ℤ → (ℕ → ℤ) → List ℤ → ℕ → ℕ → List Question
arc_questions case old rows i e = flow_questions case rows i e ++ (pressure_questions case rows i e ++ pipe_questions case old rows i e)

unfoldable pub all_arc_questions : List ℤ → (ℕ → ℤ) → List ℤ → ℕ → List Question
all_arc_questions case old rows i = over (arc_questions case old rows i) 0 (arcs_of case)
