-- The questions of a case and a plan, in their order, and the verdict: "The first "no" ends the judging."
-- Assumes nothing.
use Rattle.std.specs.Prelude.{List, [], ◌∷◌, ◌++◌, ℕ, ℤ, pos, Result}
use Rattle.numbers.specs.law.Told.{Told}
use Rattle.numbers.specs.declared.answer.No.{No}
use Rattle.numbers.specs.law.Question.{Question, first_no, found, told_with}
use Rattle.numbers.specs.law.Items.{over}
use Rattle.case.specs.law.Layout.{steps_of}
use Rattle.case.specs.law.Judged.{case_questions}
use Rattle.plan.specs.declared.totals.Totals.{Totals}
use Rattle.plan.specs.law.PlanLayout.{step_rows}
use Rattle.plan.specs.law.PlanHead.{head_question}
use Rattle.plan.specs.law.BeforeStep.{pressure_at}
use Rattle.plan.specs.law.Step.{step_questions}
use Rattle.plan.specs.law.Totals.{totals_of}

-- the questions of the step with index i of the plan
unfoldable pub plan_step : List ℤ → List ℤ → ℕ → List Question
plan_step case plan i = step_questions case (pressure_at case plan i) (step_rows case plan i) i

-- 20 to 33: "Each step from 1 to k"
unfoldable pub plan_questions : List ℤ → List ℤ → List Question
plan_questions case plan = head_question case plan ∷ over (plan_step case plan) 0 (steps_of case)

-- "Case first"
unfoldable pub questions : List ℤ → List ℤ → List Question
questions case plan = case_questions case ++ plan_questions case plan

-- the totals, or the first "no"
abbrev pub Verdict : Type 0
Verdict = Result Totals No

-- the totals in document 01's order
abbrev pub totals_told : Totals → List ℤ
totals_told t = t.pressure ∷ t.demand ∷ pos t.switching ∷ pos t.residual ∷ t.opening ∷ t.closing ∷ []

-- document 01's number and values for a verdict
abbrev pub verdict_told : Verdict → Told
verdict_told v = told_with totals_told v

unfoldable pub judge_of : List ℤ → List ℤ → Told
judge_of case plan = verdict_told (found (first_no (questions case plan)) (totals_of case plan))
