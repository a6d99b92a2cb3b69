-- Under a test of arcs that compress which agrees with the law's, 26 answers as the law's does, and so all questions, the verdict and the ledger are the law's.
use Rattle.std.specs.Prelude.{◌≡◌, refl, Bool, true, false, cond, ℕ, ◌+◌, ◌-◌, ◌≤◌, ◌<◌, ℤ, pos}
use Rattle.std.proofs.Common.{sym, ◌∙◌}
use Rattle.std.proofs.Math.Path.{ap}
use mathlib.Core.List.{List, ◌∷◌, ◌++◌}
use native.Mathlib.Omega.{arith}
use Rattle.numbers.specs.law.Question.{Question}
use Rattle.case.specs.law.Layout.{nodes_of, arcs_of, stations_of, steps_of}
use Rattle.case.specs.law.Records.{arc_of, artificial_of}
use Rattle.case.specs.law.Judged.{case_questions}
use Rattle.plan.specs.declared.setting.Way.{Way}
use Rattle.plan.specs.declared.setting.Mode.TheVariants.{Open, Regulating, Compressing}
use Rattle.plan.specs.declared.setting.Setting.{Setting}
use Rattle.plan.specs.declared.setting.Setting.TheVariants.{Unknown, Off, Active}
use Rattle.case.specs.inside.SaysLaws.{zero_says}
use Rattle.plan.specs.law.Compared.{is_zero}
use Rattle.plan.specs.law.PlanLayout.{step_rows}
use Rattle.plan.specs.law.PlanHead.{head_question}
use Rattle.plan.specs.law.BeforeStep.{pressure_at}
use Rattle.plan.specs.law.Setting.{setting_in, in_end, out_end}
use Rattle.plan.specs.law.ArcPressures.{compression_kept, pressures_kept}
use Rattle.plan.specs.law.NodeRules.{node_questions, all_node_questions}
use Rattle.plan.specs.law.ArcRules.{flow_questions, pressure_questions, pipe_questions, arc_questions, all_arc_questions}
use Rattle.plan.specs.law.StationRules.{station_questions, all_station_questions}
use Rattle.plan.specs.law.Balance.{balance_questions, all_balance_questions}
use Rattle.plan.specs.law.Step.{step_questions}
use Rattle.plan.specs.law.Judged.{plan_step, plan_questions, questions, judge_of}
use Rattle.plan.specs.law.Ledger.{ledger_questions, ledger_of}
use Rattle.plan.specs.inside.SettingLaws.{compressing_five, compressing_kept}
use Rattle.plan.specs.inside.Unmoved.{Unmoved, unmoved_append, unmoved_over}
use Rattle.plan.specs.claims.JudgedUnder.{CompressionTest, Default, act_high, compression_by, reach_of}
use Rattle.plan.specs.claims.JudgedUnder.{setting_pressures_under, pressures_under, asked_under, questions_under, judged_under, ledger_under}

pressures_alike : (test : CompressionTest) (case rows : List ℤ) (i e : ℕ)
    → ((way : Way) → setting_in case rows e ≡ Active way Compressing → let c = arc_of case e in
    test rows i e (in_end way c) (out_end way c) ≡ compression_kept case rows i e (in_end way c) (out_end way c))
    → pressures_under test case rows i e ≡ pressures_kept case rows i e
pressures_alike test case rows i e h = go (setting_in case rows e) refl
  where
    go : (s : Setting) → setting_in case rows e ≡ s → setting_pressures_under test case rows i e s ≡ pressures_kept case rows i e
    go Unknown k = refl
    go Off k = refl
    go (Active way Open) k = refl
    go (Active way Regulating) k = refl
    go (Active way Compressing) k = h way k ∙ sym (compressing_kept case rows i e way k)

-- an out bound with two defaults that are alike where it is 0
default_alike : (x default acthigh : ℤ) → (x ≡ pos 0 → default ≡ acthigh) → cond (is_zero x) default x ≡ cond (is_zero x) acthigh x
default_alike x default acthigh h = go (is_zero x) refl
  where
    go : (b : Bool) → is_zero x ≡ b → cond b default x ≡ cond b acthigh x
    go true e = h ((zero_says x).fact e)
    go false e = refl

-- a default that is acthigh of the out end, either way, where the out bound of arc e is 0; arcs of kinds 0 to 4 have no out bound
abbrev pub IsActHigh : Default → List ℤ → ℕ → ℕ → Type 0
IsActHigh default case i e =
    5 ≤ (arc_of case e).kind → (artificial_of case e).outbound ≡ pos 0 → (way : Way)
    → default i e (out_end way (arc_of case e)) ≡ act_high case i e (out_end way (arc_of case e))

-- with such a default, and a reach that is the law's where the arc compresses, 26 of the arc answers as the law's does
pub arc_alike : (default : Default) (reach : CompressionTest) (case rows : List ℤ) (i e : ℕ) → IsActHigh default case i e
    → ((way : Way) → setting_in case rows e ≡ Active way Compressing → let c = arc_of case e in
    reach rows i e (in_end way c) (out_end way c) ≡ reach_of case rows i e (in_end way c) (out_end way c))
    → pressures_under (compression_by default reach case) case rows i e ≡ pressures_kept case rows i e
unfolding compression_kept
arc_alike default reach case rows i e a h =
    pressures_alike (compression_by default reach case) case rows i e (λ way k.
    let w = out_end way (arc_of case e) in
    let b = default_alike (artificial_of case e).outbound (default i e w) (act_high case i e w) (λ z. a (compressing_five _ _ way k) z way) in
    rw (b, h way k))

-- ---- all questions

-- 26 is answered alike, of every arc in every step
abbrev pub Alike26 : CompressionTest → List ℤ → List ℤ → Type 0
Alike26 test case plan = (i e : ℕ) → i < steps_of case → e < arcs_of case
    → pressures_under test case (step_rows case plan i) i e ≡ pressures_kept case (step_rows case plan i) i e

-- then all questions are, and so the verdict and the ledger
module _ (test : CompressionTest) (case plan : List ℤ) (h : Alike26 test case plan) where
  abbrev ask : Question → Question
  ask = asked_under test case plan

  arc_unmoved : (i e : ℕ) → i < steps_of case → e < arcs_of case → Unmoved ask (arc_questions case (pressure_at case plan i) (step_rows case plan i) i e)
  unfolding arc_questions flow_questions pressure_questions pipe_questions
  arc_unmoved i e p l = let z : i + 1 - 1 ≡ i = omega arith in rw (z, h i e p l)

  step_unmoved : (i : ℕ) → i < steps_of case → Unmoved ask (plan_step case plan i)
  unfolding plan_step step_questions all_node_questions node_questions all_arc_questions all_station_questions station_questions
      all_balance_questions balance_questions
  step_unmoved i p =
      let rows = step_rows case plan i in
      let old = pressure_at case plan i in
      unmoved_append ask (all_node_questions case rows i) _
      (unmoved_over ask (node_questions case rows i) 0 (nodes_of case) (λ v l. refl))
      (unmoved_append ask (all_arc_questions case old rows i) _
      (unmoved_over ask (arc_questions case old rows i) 0 (arcs_of case) (λ e l. arc_unmoved i (0 + e) p (omega (arith, l))))
      (unmoved_append ask (all_station_questions case rows i) _
      (unmoved_over ask (station_questions case rows i) 0 (stations_of case) (λ s l. refl))
      (unmoved_over ask (balance_questions case rows i) 0 (nodes_of case) (λ v l. refl))))

  questions_alike : questions_under test case plan ≡ questions case plan
  unfolding questions plan_questions
  questions_alike =
      let steps = unmoved_over ask (plan_step case plan) 0 (steps_of case) (λ i l. step_unmoved (0 + i) (omega (arith, l))) in
      ap (λ (qs : List Question). case_questions case ++ (head_question case plan ∷ qs)) steps

  pub judged_alike : judged_under test case plan ≡ judge_of case plan
  unfolding judge_of
  judged_alike = rw questions_alike

  pub ledger_alike : (set s t : ℤ) → ledger_under test case plan set s t ≡ ledger_of case plan set s t
  unfolding ledger_of ledger_questions
  ledger_alike set s t = rw questions_alike
