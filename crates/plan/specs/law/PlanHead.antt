-- 20: "are the first two numbers 1 and k, and is the length 2 + k × (6N + 4A + 2S)?" Step and place are 0.
-- The case and 20, with what is told of them: "The first "no" ends the judging."
-- Assumes nothing.
use Rattle.std.specs.Prelude.{◌≡◌, Bool, ◌&&◌, List, [], ◌∷◌, ◌++◌, eqb, ℤ, pos, length}
use Rattle.numbers.specs.law.Told.{Told}
use Rattle.numbers.specs.law.Question.{Question, first_no, told}
use Rattle.case.specs.law.Layout.{number_at, steps_of}
use Rattle.case.specs.law.Judged.{case_questions}
use Rattle.case.specs.law.LayoutOf.{LayingOf}
use Rattle.case.specs.declared.records.Layout.{Layout}
use Rattle.case.specs.declared.records.Laying.{Laying}
use Rattle.plan.specs.law.Compared.{same}
use Rattle.plan.specs.law.PlanLayout.{step_at}

unfoldable pub head_kept : List ℤ → List ℤ → Bool
head_kept case plan =
    same (number_at plan 0) (pos 1)
    && (same (number_at plan 1) (pos (steps_of case))
    && eqb (length plan) (step_at case (steps_of case)))

abbrev pub head_question : List ℤ → List ℤ → Question
head_question case plan = record { yes = head_kept case plan; number = 20; step = 0; place = 0 }

-- "Case first", and then 20
unfoldable pub head_questions : List ℤ → List ℤ → List Question
head_questions case plan = case_questions case ++ (head_question case plan ∷ [])

unfoldable pub head_judged : List ℤ → List ℤ → Told
head_judged case plan = told (first_no (head_questions case plan))

-- a layout beside the answer on its case alone
abbrev pub case_laying : List ℤ → Layout → Laying
case_laying case l = record { answer = first_no (case_questions case); layout = l }

-- what the judge of a case and 20 gives: the answer, and the layout that the judge of the case gives
pub record HeadLaid (case plan : List ℤ) (l : Laying) : Type 0 where
  pub told_is : told l.answer ≡ head_judged case plan
  pub laid : LayingOf case (case_laying case l.layout)
