-- The loop over the steps, over plain lists: what holds before the step with index i, one turn, and both ways out.
use Rattle.std.specs.Prelude.{Ok, Err, Result, take, drop}
use Rattle.plan.specs.inside.SumSizes.{most_demand_slack, most_pressure_slack, most_residual, most_switching}
use Rattle.plan.proofs.Common.{◌≡◌, refl, sym, ap, ap₂, ◌∙◌, ℕ, ◌+◌, ◌-◌, ◌*◌, ◌<◌, ◌≤◌, arith, ℤ, pos, nat_abs, ◌+ℤ◌}
use mathlib.Core.List.{List}
use native.Mathlib.Numerals.{add-one}
use Rattle.numbers.specs.inside.SignedBounds.{abs_add}
use Rattle.numbers.specs.declared.answer.No.{No}
use Rattle.numbers.specs.law.Question.{first_no, found}
use Rattle.numbers.specs.law.Items.{over}
use Rattle.numbers.specs.inside.ItemLaws.{rest, rest_on, rest_no, rest_end}
use Rattle.numbers.specs.law.Sums.{sum, sum_n}
use Rattle.case.specs.law.Layout.{number_at, nodes_of, steps_of}
use Rattle.case.specs.law.LayoutOf.{Holds}
use Rattle.case.specs.law.States.{active_at_start}
use Rattle.plan.specs.declared.previous.Previous.{Previous}
use Rattle.plan.specs.declared.totals.Totals.{Totals}
use Rattle.plan.specs.law.PlanLayout.{step_at, step_width, step_rows}
use Rattle.plan.specs.law.PlanRecords.{pressure_in, active_in, direction_in, state_in}
use Rattle.plan.specs.law.BeforeStep.{start_pressure, start_direction, start_state, pressure_at, active_at, direction_chosen, state_chosen}
use Rattle.plan.specs.inside.PreviousHolds.{Carried, active_of, index_of}
use Rattle.plan.specs.inside.Preconditions.{AcceptedCase, StepKept}
use Rattle.plan.specs.inside.Sizes.{PressuresSized}
use Rattle.plan.specs.inside.StepTotals.{Added, Opened, Closed, TotalsSized}
use Rattle.plan.specs.inside.CaseSizes.{counted, node_sized}
use Rattle.plan.specs.inside.AnsweredSizes.{step_kept, pressures_sized}
use Rattle.plan.specs.law.Step.{step_questions}
use Rattle.plan.specs.law.Totals.{gas_at, step_pressure_slack, step_demand_slack, step_switching, step_residual, totals_to, totals_of}
use Rattle.plan.specs.law.Totals.{pressure_slack_in, demand_slack_in, node_residuals}
use Rattle.plan.specs.law.Judged.{plan_step}
use Rattle.plan.specs.inside.StepSizes.{pressure_slack_sized, demand_slack_sized, choice_costs_le, activity_costs_le}
use Rattle.plan.specs.inside.StepSizes.{pipe_residuals_le, node_residuals_le}
use Rattle.plan.specs.inside.StepAnswer.{no_first}
use Rattle.plan.specs.inside.StepAlike.{step_alike, pipes_alike, gas_alike, choices_alike, activities_alike}

-- the totals of the first i steps
pub record Summed (case plan : List ℤ) (t : Totals) (i : ℕ) : Type 0 where
  pub pressure : t.pressure ≡ sum i (step_pressure_slack case plan)
  pub demand : t.demand ≡ sum i (step_demand_slack case plan)
  pub switching : t.switching ≡ sum_n i (step_switching case plan)
  pub residual : t.residual ≡ sum_n i (step_residual case plan)
  pub opening : t.opening ≡ gas_at case (pressure_at case plan 0)

-- and their sizes
pub record Sized (t : Totals) (i : ℕ) : Type 0 where
  pub pressure : nat_abs t.pressure ≤ i * most_pressure_slack
  pub demand : nat_abs t.demand ≤ i * most_demand_slack
  pub switching : t.switching ≤ i * most_switching
  pub residual : t.residual ≤ i * most_residual

pub record Going (case plan : List ℤ) (x : Previous) (t : Totals) (i : ℕ) : Type 0 where
  pub upto : i ≤ steps_of case
  pub asked : first_no (over (plan_step case plan) 0 (steps_of case)) ≡ rest (plan_step case plan) i (steps_of case)
  pub carried : Carried case x (pressure_at case plan i) (active_at case plan i) (direction_chosen case plan i) (state_chosen case plan i)
  pub pressures : PressuresSized (number_at x.pressures) (nodes_of case)
  pub summed : Summed case plan t i
  pub sized : Sized t i

-- pressures in an array are as small as those that it holds
pub held_sized : {n : ℕ} {xs : List ℤ} {p : ℕ → ℤ} → Holds (pos 0) xs p n → PressuresSized p n → PressuresSized (number_at xs) n
held_sized h s = record { each = λ v l. record { bound = rw (h.each v l) (s.each v l).bound } }

pub start_sized : {case : List ℤ} → AcceptedCase case → PressuresSized (start_pressure case) (nodes_of case)
start_sized a = record { each = λ v l. (node_sized a v l 0 (counted a).some_step).p0 }

-- totals that were made of the gas at the pressures p, before the first step and past the last
pub opens : {case : List ℤ} {p : ℕ → ℤ} {g : ℤ} {t : Totals} → g ≡ gas_at case p
    → t ≡ record { pressure = pos 0; demand = pos 0; switching = 0; residual = 0; opening = g; closing = pos 0 } → Opened case p t
opens h e = rw e (record { pressure = refl; demand = refl; switching = refl; residual = refl; opening = h })

pub closes : {case : List ℤ} {p : ℕ → ℤ} {g : ℤ} {t u : Totals} → g ≡ gas_at case p
    → u ≡ record { pressure = t.pressure; demand = t.demand; switching = t.switching; residual = t.residual; opening = t.opening; closing = g }
    → Closed case p t u
closes h e = rw e (record { pressure = refl; demand = refl; switching = refl; residual = refl; opening = refl; closing = h })

pub part_is : (case plan : List ℤ) (i w : ℕ) {rows : List ℤ} → w ≡ step_width case → rows ≡ take w (drop (2 + i * w) plan) → rows ≡ step_rows case plan i
unfolding step_rows step_at
part_is case plan i w e h = h ∙ rw e

module _ {case plan : List ℤ} (a : AcceptedCase case) where
  pub going : {x : Previous} {t : Totals} → Carried case x (start_pressure case) (active_at_start case) (start_direction case) (start_state case)
      → Opened case (number_at x.pressures) t → Going case plan x t 0
  unfolding pressure_at active_at direction_chosen state_chosen sum sum_n
  going {x} {t} h o = record {
    upto = omega arith;
    asked = let e : steps_of case - 0 ≡ steps_of case = omega arith in rw e;
    carried = h;
    pressures = held_sized h.pressures (start_sized a);
    summed = record {
      pressure = o.pressure;
      demand = o.demand;
      switching = o.switching;
      residual = o.residual;
      opening = o.opening ∙ gas_alike a (number_at x.pressures) (start_pressure case) h.pressures.each;
    };
    sized = record {
      pressure = rw o.pressure (omega arith);
      demand = rw o.demand (omega arith);
      switching = omega (arith, o.switching);
      residual = omega (arith, o.residual);
    };
  }

-- one step whose questions are all answered yes
module _ {case plan : List ℤ} (a : AcceptedCase case) {x : Previous} {t : Totals} {i : ℕ} (g : Going case plan x t i) (l : i < steps_of case)
    {rows : List ℤ} (r : rows ≡ step_rows case plan i) where
  -- the pressures of the array and of the plan ask the same
  pub step_same : first_no (step_questions case (number_at x.pressures) rows i) ≡ first_no (plan_step case plan i)
  unfolding plan_step
  step_same =
      step_alike a (number_at x.pressures) (pressure_at case plan i) g.carried.pressures.each rows i
      ∙ ap (λ (w : List ℤ). first_no (step_questions case (pressure_at case plan i) w i)) r

  pub kept : first_no (step_questions case (number_at x.pressures) rows i) ≡ Ok tt → StepKept case x.pressures rows i
  kept y = step_kept case x.pressures rows i a l g.pressures y

  pub room : TotalsSized t
  room =
      let s = g.sized in
      let k = (counted a).steps in
      record {
        pressure = record { bound = omega (arith, s.pressure) };
        demand = record { bound = omega (arith, s.demand) };
        switching = omega (arith, s.switching);
        residual = omega (arith, s.residual);
      }

  pub refused : (m : ℕ) {n : No} {b : Result ℕ No} → b ≡ found (first_no (step_questions case (number_at x.pressures) rows i)) m → b ≡ Err n
      → Err n ≡ found (first_no (over (plan_step case plan) 0 (steps_of case))) (totals_of case plan)
  refused m e h = let k = no_first _ m e h in rw (rest_no (plan_step case plan) i (steps_of case) g.asked l step_same k ∙ k)

  module _ {u : Totals} (yes : first_no (step_questions case (number_at x.pressures) rows i) ≡ Ok tt) (d : Added case rows x i t u) where
    sums : Summed case plan u (i + 1)
    unfolding sum sum_n step_pressure_slack step_demand_slack step_switching step_residual
    sums =
        let w = step_rows case plan i in
        let k : Added case w x i t u = rw r at d in
        let s = g.summed in
        let h = g.carried in
        let directions = direction_chosen case plan i in
        let states = state_chosen case plan i in
        let choices = choices_alike case w (index_of x.directions) directions (index_of x.states) states h.directions.each h.states.each in
        let activities = activities_alike case w (active_of x.active) (active_at case plan i) h.active.each in
        let pipes = pipes_alike a (number_at x.pressures) (pressure_at case plan i) h.pressures.each w i in
        rw (add-one i) (record {
          pressure = k.pressure ∙ ap (λ (z : ℤ). z +ℤ pressure_slack_in case w) s.pressure;
          demand = k.demand ∙ ap (λ (z : ℤ). z +ℤ demand_slack_in case w) s.demand;
          switching = k.switching ∙ ap₂ ◌+◌ s.switching (ap₂ ◌+◌ choices activities);
          residual = k.residual ∙ ap₂ ◌+◌ s.residual (ap (λ (z : ℕ). z + node_residuals case w i) pipes);
          opening = k.opening ∙ s.opening;
        })

    sizes : Sized u (i + 1)
    sizes =
        let s = g.sized in
        let k = kept yes in
        let w = abs_add t.pressure (pressure_slack_in case rows) in
        let z = abs_add t.demand (demand_slack_in case rows) in
        let choices = choice_costs_le rows a k.choices (index_of x.directions) (index_of x.states) in
        let activities = activity_costs_le rows a (active_of x.active) in
        record {
          pressure = rw d.pressure (omega (arith, w, s.pressure, (pressure_slack_sized rows a k.node_rows).bound));
          demand = rw d.demand (omega (arith, z, s.demand, (demand_slack_sized rows a k.node_rows).bound));
          switching = omega (arith, d.switching, s.switching, choices, activities);
          residual = omega (arith, d.residual, s.residual, pipe_residuals_le rows a k, node_residuals_le rows a k);
        }

    pub went_on : {y : Previous} → Carried case y (pressure_in rows) (active_in case rows) (direction_in case rows) (state_in case rows)
        → Going case plan y u (i + 1)
    unfolding pressure_at active_at direction_chosen state_chosen
    went_on h = record {
      upto = omega (arith, l);
      asked = rest_on (plan_step case plan) i (steps_of case) g.asked l refl (sym step_same ∙ yes);
      carried = rw (add-one i) (rw r at h);
      pressures = held_sized h.pressures (pressures_sized (kept yes).node_rows);
      summed = sums;
      sized = sizes;
    }

-- past the last step
pub finished : {case plan : List ℤ} → AcceptedCase case → {x : Previous} {t u : Totals} {i : ℕ} → Going case plan x t i → steps_of case ≤ i
    → Closed case (number_at x.pressures) t u → Ok u ≡ found (first_no (over (plan_step case plan) 0 (steps_of case))) (totals_of case plan)
unfolding totals_of totals_to
finished {case} {plan} a {x} {t} {u} {i} g l d =
    let e : i ≡ steps_of case = omega (arith, g.upto) in
    let s : Summed case plan t (steps_of case) = rw e at g.summed in
    let h = gas_alike a (number_at x.pressures) (pressure_at case plan i) g.carried.pressures.each in
    let p = d.pressure ∙ s.pressure in
    let q = d.demand ∙ s.demand in
    let w = d.switching ∙ s.switching in
    let v = d.residual ∙ s.residual in
    let o = d.opening ∙ s.opening in
    let c = d.closing ∙ (rw e at h) in
    rw (rest_end (plan_step case plan) i (steps_of case) g.asked l, ← p, ← q, ← w, ← v, ← o, ← c)

-- what the loop leans on
pub ruleset step_loop = (held_sized, start_sized, counted)
