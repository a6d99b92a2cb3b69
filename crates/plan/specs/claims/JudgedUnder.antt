-- The law's own questions under another test of arcs that compress: 26 of such an arc is answered by the test, every other question as it is. So "as before"
-- can be said of the whole verdict and of the ledger.
-- Assumes nothing.
use Rattle.std.specs.Prelude.{Bool, cond, ◌&&◌, List, ◌++◌, map, ℕ, ◌-◌, eqb, ℤ}
use Rattle.std.specs.Int.Signed.{le_z}
use Rattle.numbers.specs.law.Told.{Told}
use Rattle.numbers.specs.law.Question.{Question, first_no, found}
use Rattle.case.specs.law.Records.{node_of, arc_of, artificial_of}
use Rattle.case.specs.law.Judged.{case_questions}
use Rattle.plan.specs.declared.setting.Mode.TheVariants.{Open, Regulating, Compressing}
use Rattle.plan.specs.declared.setting.Setting.{Setting}
use Rattle.plan.specs.declared.setting.Setting.TheVariants.{Unknown, Off, Active}
use Rattle.plan.specs.law.Compared.{is_zero}
use Rattle.plan.specs.law.PlanLayout.{step_rows}
use Rattle.plan.specs.law.PlanRecords.{pressure_in}
use Rattle.plan.specs.law.Setting.{setting_in, in_end, out_end}
use Rattle.plan.specs.law.ArcPressures.{reach_kept, pressures_kept}
use Rattle.plan.specs.law.Totals.{totals_of}
use Rattle.plan.specs.law.Judged.{plan_questions, verdict_told}
use Rattle.plan.specs.law.Ledger.{region_questions, ledger_told, figures_for}

-- a test of an arc e that compresses from the node u to the node w, in the step with index i whose numbers are `rows`
abbrev pub CompressionTest : Type 0
CompressionTest = (rows : List ℤ) (i e u w : ℕ) → Bool

-- "compressing in ≤ out, out ≤ out bound, and" that the machines reach it
abbrev pub tests_kept : (p_in p_out bound : ℤ) (reached : Bool) → Bool
tests_kept p_in p_out bound reached = le_z p_in p_out && (le_z p_out bound && reached)

-- what an out bound of 0 stands for, in the step with index i, at arc e with the out end w
abbrev pub Default : Type 0
Default = (i e w : ℕ) → ℤ

-- "acthigh of the out end in that step" (document 02, P8)
abbrev pub act_high : List ℤ → Default
act_high case i e w = (node_of case w i).acthigh

-- the out bound with a default
abbrev pub bound_with : Default → List ℤ → ℕ → ℕ → ℕ → ℤ
bound_with default case i e w = cond (is_zero (artificial_of case e).outbound) (default i e w) (artificial_of case e).outbound

-- the test with a default and with another reach
abbrev pub compression_by : Default → CompressionTest → List ℤ → CompressionTest
compression_by default reach case rows i e u w =
    tests_kept (pressure_in rows u) (pressure_in rows w) (bound_with default case i e w) (reach rows i e u w)

-- the law's own reach
abbrev pub reach_of : List ℤ → CompressionTest
reach_of case rows i e u w = reach_kept case rows e u w

-- an arc that does not compress is asked as it is
abbrev pub setting_pressures_under : CompressionTest → List ℤ → List ℤ → ℕ → ℕ → Setting → Bool
setting_pressures_under test case rows i e Unknown = pressures_kept case rows i e
setting_pressures_under test case rows i e Off = pressures_kept case rows i e
setting_pressures_under test case rows i e (Active way Open) = pressures_kept case rows i e
setting_pressures_under test case rows i e (Active way Regulating) = pressures_kept case rows i e
setting_pressures_under test case rows i e (Active way Compressing) = test rows i e (in_end way (arc_of case e)) (out_end way (arc_of case e))

-- 26
abbrev pub pressures_under : CompressionTest → List ℤ → List ℤ → ℕ → ℕ → Bool
pressures_under test case rows i e = setting_pressures_under test case rows i e (setting_in case rows e)

-- a question of the plan
abbrev pub asked_under : CompressionTest → List ℤ → List ℤ → Question → Question
asked_under test case plan q =
    let i = q.step - 1 in
    record {
      yes = cond (eqb q.number 26) (pressures_under test case (step_rows case plan i) i q.place) q.yes;
      number = q.number;
      step = q.step;
      place = q.place;
    }

-- the questions, the verdict and what the ledger tells
abbrev pub questions_under : CompressionTest → List ℤ → List ℤ → List Question
questions_under test case plan = case_questions case ++ map (asked_under test case plan) (plan_questions case plan)

abbrev pub judged_under : CompressionTest → List ℤ → List ℤ → Told
judged_under test case plan = verdict_told (found (first_no (questions_under test case plan)) (totals_of case plan))

abbrev pub ledger_under : CompressionTest → List ℤ → List ℤ → ℤ → ℤ → ℤ → Told
ledger_under test case plan set s t =
    ledger_told (found (first_no (questions_under test case plan ++ region_questions case set s t)) (figures_for case plan set s t))
