-- Every refusal of a plan and of the ledger has a small number, step and place: a place is a node, an arc or a station.
use Rattle.std.specs.Prelude.{Bool, List, ◌∷◌, ◌++◌, ℕ, zero, suc, ◌+◌, ◌-◌, ◌<◌, ◌≤◌, ℤ}
use Rattle.std.proofs.Math.Bool.{true, false, cond}
use native.Mathlib.Omega.{arith}
use Rattle.std.proofs.Common.{rules}
use Rattle.numbers.specs.law.Question.{first_no}
use Rattle.numbers.specs.law.Items.{over}
use Rattle.numbers.specs.inside.SmallRefusals.{Small, AllSmall, small_append, all_small, all_append, all_over}
use Rattle.numbers.specs.law.Sets.{member_of}
use Rattle.case.specs.law.Extents.{arc_capacity, node_capacity, set_room}
use Rattle.case.specs.law.Layout.{nodes_of, arcs_of, stations_of, steps_of}
use Rattle.case.specs.inside.Counts.{Counted}
use Rattle.case.specs.law.Judged.{case_questions}
use Rattle.case.specs.inside.FieldLaws.{first_yes}
use Rattle.case.specs.inside.SmallRefusals.{limit, case_small}
use Rattle.plan.specs.inside.CaseSizes.{counted}
use Rattle.plan.specs.law.PlanHead.{head_question}
use Rattle.plan.specs.law.NodeRules.{node_questions, all_node_questions}
use Rattle.plan.specs.law.ArcRules.{flow_questions, pressure_questions, pipe_questions, arc_questions, all_arc_questions}
use Rattle.plan.specs.law.StationRules.{station_questions, all_station_questions}
use Rattle.plan.specs.law.Balance.{balance_questions, all_balance_questions}
use Rattle.plan.specs.law.Step.{step_questions}
use Rattle.plan.specs.law.Judged.{plan_step, plan_questions, questions}
use Rattle.plan.specs.law.Ledger.{is_node_set, lowest_of, foreign_node, region_questions, ledger_questions}

module _ {case : List ℤ} (c : Counted case) where
  step_small : (old : ℕ → ℤ) (rows : List ℤ) (i : ℕ) → i < steps_of case → AllSmall limit (step_questions case old rows i)
  unfolding step_questions all_node_questions node_questions all_arc_questions arc_questions flow_questions pressure_questions pipe_questions
      all_station_questions station_questions all_balance_questions balance_questions
  step_small old rows i l =
      let k : i < 48 = omega (arith, l, c.steps) in
      all_append limit (all_node_questions case rows i)
      (all_arc_questions case old rows i ++ (all_station_questions case rows i ++ all_balance_questions case rows i))
      (all_over limit (node_questions case rows i) 0 (nodes_of case) (λ v q. let h : v < node_capacity = omega (arith, q, c.nodes) in search rules))
      (all_append limit (all_arc_questions case old rows i) (all_station_questions case rows i ++ all_balance_questions case rows i)
      (all_over limit (arc_questions case old rows i) 0 (arcs_of case) (λ e q. let h : e < arc_capacity = omega (arith, q, c.arcs) in search rules))
      (all_append limit (all_station_questions case rows i) (all_balance_questions case rows i)
      (all_over limit (station_questions case rows i) 0 (stations_of case) (λ s q. let h : s < 8 = omega (arith, q, c.stations) in search rules))
      (all_over limit (balance_questions case rows i) 0 (nodes_of case) (λ v q. let h : v < node_capacity = omega (arith, q, c.nodes) in search rules))))

  pub plan_small : (plan : List ℤ) → Small limit (first_no (plan_questions case plan))
  unfolding plan_questions plan_step
  plan_small plan =
      let s = all_over limit (plan_step case plan) 0 (steps_of case) (λ i l. step_small _ _ (0 + i) (omega (arith, l))) in
      all_small limit (head_question case plan ∷ over (plan_step case plan) 0 (steps_of case)) (omega arith, omega arith, omega arith, omega arith, s)

module _ (case plan : List ℤ) where
  pub judge_small : Small limit (first_no (questions case plan))
  unfolding questions
  judge_small = small_append limit (case_questions case) (plan_questions case plan) (case_small case) (λ y. plan_small (counted (record { yes = y })) plan)

  lowest_small : (set : ℤ) (v c : ℕ) → lowest_of set v c ≤ v + c
  lowest_small set v zero = omega arith
  lowest_small set v (suc c) = go (member_of set v) (lowest_small set (suc v) c)
    where
      go : (b : Bool) → lowest_of set (suc v) c ≤ suc v + c → cond b v (lowest_of set (suc v) c) ≤ v + suc c
      go true h = omega arith
      go false h = omega (arith, h)

  foreign_small : (set : ℤ) → nodes_of case ≤ node_capacity → foreign_node case set < limit
  unfolding foreign_node
  foreign_small set h = go (is_node_set set)
    where
      go : (b : Bool) → cond b (lowest_of set (nodes_of case) (set_room - nodes_of case)) 0 < limit
      go true = omega (arith, lowest_small set (nodes_of case) (set_room - nodes_of case), h)
      go false = omega arith

  pub ledger_small : (set s t : ℤ) → Small limit (first_no (ledger_questions case plan set s t))
  unfolding ledger_questions region_questions questions
  ledger_small set s t =
      small_append limit (questions case plan) (region_questions case set s t) judge_small
      (λ y. all_small limit (region_questions case set s t) (
        omega arith,
        omega arith,
        foreign_small set (counted (record { yes = first_yes (case_questions case) (plan_questions case plan) y })).nodes,
        omega arith,
        (omega arith, omega arith, omega arith, omega arith, tt),
      ))
