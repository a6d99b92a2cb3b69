-- A plan is accepted exactly where every question of the case holds, 20 holds, and every rule from 21 to 33 holds of every item at every step.
-- Assumes nothing.
use Rattle.std.specs.Prelude.{◌≡◌, refl, true, List, [], ◌∷◌, ℕ, ◌+◌, ◌<◌, ℤ, length, Ok, Err}
use Rattle.std.proofs.Common.{ap}
use native.Mathlib.Omega.{arith}
use Rattle.numbers.specs.law.Told.{Told}
use Rattle.numbers.specs.law.Question.{Question, first_no, Answer, found}
use Rattle.numbers.specs.inside.QuestionLaws.{first_no_append, all_yes}
use Rattle.numbers.specs.law.Items.{over}
use Rattle.numbers.specs.inside.ItemLaws.{over_all}
use Rattle.case.specs.law.Layout.{nodes_of, arcs_of, stations_of, steps_of}
use Rattle.case.specs.law.Records.{node_of, arc_of, artificial_of}
use Rattle.case.specs.inside.FieldLaws.{first_yes, second_yes, item_yes}
use Rattle.case.specs.law.Judged.{case_questions}
use Rattle.plan.specs.declared.totals.Totals.{Totals}
use Rattle.plan.specs.law.PlanLayout.{step_rows}
use Rattle.plan.specs.law.PlanRecords.{node_row, arc_row}
use Rattle.plan.specs.law.BeforeStep.{pressure_at}
use Rattle.plan.specs.law.PlanHead.{head_kept, head_question}
use Rattle.plan.specs.law.NodeRules.{node_numbers_kept, demand_met, active_bounds_kept, node_questions, all_node_questions}
use Rattle.plan.specs.law.ArcFlows.{arc_numbers_kept, flow_allowed}
use Rattle.plan.specs.law.ArcPressures.{pressures_kept}
use Rattle.plan.specs.law.ArcMachines.{machines_used}
use Rattle.plan.specs.law.Pipes.{pipe_mass_kept, pipe_pressures_kept}
use Rattle.plan.specs.law.ArcRules.{flow_questions, pressure_questions, pipe_questions, arc_questions, all_arc_questions}
use Rattle.plan.specs.law.StationRules.{choice_kept, machines_once, fence_flows_kept, station_questions, all_station_questions}
use Rattle.plan.specs.law.Balance.{balance_kept, balance_questions, all_balance_questions}
use Rattle.plan.specs.law.Step.{step_questions}
use Rattle.plan.specs.law.Totals.{totals_of}
use Rattle.plan.specs.inside.AnsweredSizes.{nodes_yes, arcs_yes, stations_yes, balances_yes}
use Rattle.plan.specs.law.Judged.{plan_step, plan_questions, questions, verdict_told, judge_of}

-- ---- the rules of one item in one step; `old v` is the pressure of node v before the step

pub record NodeRules (case rows : List ℤ) (i v : ℕ) : Type 0 where
  pub rule21 : node_numbers_kept (node_of case v i) (node_row rows v) ≡ true
  pub rule22 : demand_met (node_of case v i) (node_row rows v) ≡ true
  pub rule23 : active_bounds_kept (node_of case v i) (node_row rows v) ≡ true

pub record ArcRules (case : List ℤ) (old : ℕ → ℤ) (rows : List ℤ) (i e : ℕ) : Type 0 where
  pub rule24 : arc_numbers_kept (arc_of case e) (artificial_of case e) (arc_row case rows e) ≡ true
  pub rule25 : flow_allowed (arc_of case e) (arc_row case rows e) ≡ true
  pub rule26 : pressures_kept case rows i e ≡ true
  pub rule27 : machines_used case rows e ≡ true
  pub rule28 : pipe_mass_kept case old rows i e ≡ true
  pub rule29 : pipe_pressures_kept case rows e ≡ true

pub record StationRules (case rows : List ℤ) (s : ℕ) : Type 0 where
  pub rule30 : choice_kept case rows s ≡ true
  pub rule31 : machines_once case rows s ≡ true
  pub rule32 : fence_flows_kept case rows s ≡ true

-- every rule of a step
pub record StepRules (case : List ℤ) (old : ℕ → ℤ) (rows : List ℤ) (i : ℕ) : Type 0 where
  pub nodes : (v : ℕ) → v < nodes_of case → NodeRules case rows i v
  pub arcs : (e : ℕ) → e < arcs_of case → ArcRules case old rows i e
  pub stations : (s : ℕ) → s < stations_of case → StationRules case rows s
  pub rule33 : (v : ℕ) → v < nodes_of case → balance_kept case rows i v ≡ true

-- every rule of a plan
pub record PlanRules (case plan : List ℤ) : Type 0 where
  pub case_yes : first_no (case_questions case) ≡ Ok tt
  pub rule20 : head_kept case plan ≡ true
  pub steps : (i : ℕ) → i < steps_of case → StepRules case (pressure_at case plan i) (step_rows case plan i) i

-- ---- one step

module _ (case : List ℤ) (old : ℕ → ℤ) (rows : List ℤ) (i : ℕ) where
  arc_rules : (e : ℕ) → first_no (arc_questions case old rows i e) ≡ Ok tt → ArcRules case old rows i e
  unfolding arc_questions flow_questions pressure_questions pipe_questions
  arc_rules e y =
      let a = all_yes (arc_questions case old rows i e) y in
      record { rule24 = a.0; rule25 = a.1.0; rule26 = a.1.1.0; rule27 = a.1.1.1.0; rule28 = a.1.1.1.1.0; rule29 = a.1.1.1.1.1.0 }

  rules_arc : (e : ℕ) → ArcRules case old rows i e → first_no (arc_questions case old rows i e) ≡ Ok tt
  unfolding arc_questions flow_questions pressure_questions pipe_questions
  rules_arc e r = rw (r.rule24, r.rule25, r.rule26, r.rule27, r.rule28, r.rule29)

  pub step_rules : first_no (step_questions case old rows i) ≡ Ok tt → StepRules case old rows i
  unfolding all_node_questions node_questions all_arc_questions all_station_questions station_questions all_balance_questions balance_questions
  step_rules y = record {
    nodes = λ v q.
        let a = all_yes (node_questions case rows i v) (item_yes (node_questions case rows i) (nodes_of case) (nodes_yes case old rows i y) v q) in
        record { rule21 = a.0; rule22 = a.1.0; rule23 = a.1.1.0 };
    arcs = λ e q. arc_rules e (item_yes (arc_questions case old rows i) (arcs_of case) (arcs_yes case old rows i y) e q);
    stations = λ s q.
        let a = all_yes (station_questions case rows i s) (item_yes (station_questions case rows i) (stations_of case) (stations_yes case old rows i y) s q) in
        record { rule30 = a.0; rule31 = a.1.0; rule32 = a.1.1.0 };
    rule33 = λ v q. (all_yes (balance_questions case rows i v)
        (item_yes (balance_questions case rows i) (nodes_of case) (balances_yes case old rows i y) v q)).0;
  }

  zero_add : (n : ℕ) → 0 + n ≡ n
  zero_add n = omega arith

  all_of : (f : ℕ → List Question) (n : ℕ) → ((j : ℕ) → j < n → first_no (f j) ≡ Ok tt) → first_no (over f 0 n) ≡ Ok tt
  all_of f n h = over_all f 0 n (λ j p. rw (zero_add j) (h j p))

  pub rules_step : StepRules case old rows i → first_no (step_questions case old rows i) ≡ Ok tt
  unfolding step_questions all_node_questions node_questions all_arc_questions all_station_questions station_questions all_balance_questions balance_questions
  rules_step r =
      rw (
        first_no_append,
        all_of (node_questions case rows i) (nodes_of case) (λ v q. let n = r.nodes v q in rw (n.rule21, n.rule22, n.rule23)),
        first_no_append,
        all_of (arc_questions case old rows i) (arcs_of case) (λ e q. rules_arc e (r.arcs e q)),
        first_no_append,
        all_of (station_questions case rows i) (stations_of case) (λ s q. let n = r.stations s q in rw (n.rule30, n.rule31, n.rule32)),
        all_of (balance_questions case rows i) (nodes_of case) (λ v q. let n = r.rule33 v q in rw n),
      )

-- ---- the whole plan

-- a verdict that carries totals is no refusal
accepted_yes : (a : Answer) (s t : Totals) → verdict_told (found a s) ≡ verdict_told (Ok t) → a ≡ Ok tt
accepted_yes (Ok _) s t e = refl
accepted_yes (Err n) s t e = let v = ap (λ (x : Told). length x.values) e in let f : ⊥ = omega arith in absurd f

module _ (case plan : List ℤ) where
  pub sound : (t : Totals) → judge_of case plan ≡ verdict_told (Ok t) → PlanRules case plan
  unfolding judge_of questions plan_questions plan_step
  sound t e =
      let y = accepted_yes (first_no (questions case plan)) (totals_of case plan) t e in
      let p = second_yes (case_questions case) (plan_questions case plan) y in
      let s = second_yes (head_question case plan ∷ []) (over (plan_step case plan) 0 (steps_of case)) p in
      record {
        case_yes = first_yes (case_questions case) (plan_questions case plan) y;
        rule20 = (all_yes (plan_questions case plan) p).0;
        steps = λ i q. step_rules case (pressure_at case plan i) (step_rows case plan i) i (item_yes (plan_step case plan) (steps_of case) s i q);
      }

  pub complete : PlanRules case plan → judge_of case plan ≡ verdict_told (Ok (totals_of case plan))
  unfolding judge_of questions plan_questions plan_step
  complete r =
      rw (
        first_no_append,
        r.case_yes,
        r.rule20,
        over_all (plan_step case plan) 0 (steps_of case)
            (λ i q. rw (zero i) (rules_step case (pressure_at case plan i) (step_rows case plan i) i (r.steps i q))),
      )
    where
      zero : (n : ℕ) → 0 + n ≡ n
      zero n = omega arith
