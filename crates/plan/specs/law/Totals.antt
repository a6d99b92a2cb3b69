-- "Accepted carries six totals". What one step adds goes by its part of the plan and by what was before it; `old`, `was` and the like are the latter.
-- Assumes nothing.
use Rattle.std.specs.Prelude.{Bool, true, false, not, ◌&&◌, List, ℕ, ◌+◌, eqb, leb, ℤ, ◌+ℤ◌, ◌*ℤ◌}
use Rattle.numbers.specs.law.Sums.{sum, sum_n, only, only_n}
use Rattle.case.specs.law.Layout.{nodes_of, arcs_of, stations_of, steps_of}
use Rattle.case.specs.law.Records.{arc_of, pipe_of, artificial_of, direction_of, state_of}
use Rattle.plan.specs.declared.totals.Totals.{Totals}
use Rattle.plan.specs.law.PlanLayout.{step_rows}
use Rattle.plan.specs.law.PlanRecords.{node_row, active_in, direction_in, state_in}
use Rattle.plan.specs.law.BeforeStep.{pressure_at, active_at, direction_chosen, state_chosen}
use Rattle.plan.specs.law.Pipes.{is_pipe, pipe_residual}
use Rattle.plan.specs.law.Balance.{node_residual}

-- ---- "Pressure slack sums u+ and u-, demand slack s+ and s-, over all nodes and steps."

unfoldable pub pressure_slack_at : List ℤ → ℕ → ℤ
pressure_slack_at rows v = (node_row rows v).uplus +ℤ (node_row rows v).uminus

unfoldable pub demand_slack_at : List ℤ → ℕ → ℤ
demand_slack_at rows v = (node_row rows v).splus +ℤ (node_row rows v).sminus

unfoldable pub pressure_slack_in : List ℤ → List ℤ → ℤ
pressure_slack_in case rows = sum (nodes_of case) (pressure_slack_at rows)

unfoldable pub demand_slack_in : List ℤ → List ℤ → ℤ
demand_slack_in case rows = sum (nodes_of case) (demand_slack_at rows)

-- ---- "switching cost (weight of each newly chosen direction and state, and of each artificial arc whose activity changed)"

abbrev pub changed : Bool → Bool → Bool
changed true b = not b
changed false b = b

unfoldable pub direction_cost : List ℤ → ℕ → List ℤ → ℕ → ℕ
direction_cost case was rows s = only_n (not (eqb (direction_in case rows s) was)) (direction_of case s (direction_in case rows s)).weight

unfoldable pub state_cost : List ℤ → ℕ → List ℤ → ℕ → ℕ
state_cost case was rows s = only_n (not (eqb (state_in case rows s) was)) (state_of case s (state_in case rows s)).weight

unfoldable pub activity_cost : List ℤ → Bool → List ℤ → ℕ → ℕ
activity_cost case was rows e = only_n (leb 3 (arc_of case e).kind && changed was (active_in case rows e)) (artificial_of case e).weight

unfoldable pub choice_cost : List ℤ → (ℕ → ℕ) → (ℕ → ℕ) → List ℤ → ℕ → ℕ
choice_cost case was_direction was_state rows s = direction_cost case (was_direction s) rows s + state_cost case (was_state s) rows s

unfoldable pub choice_costs : List ℤ → (ℕ → ℕ) → (ℕ → ℕ) → List ℤ → ℕ
choice_costs case was_direction was_state rows = sum_n (stations_of case) (choice_cost case was_direction was_state rows)

abbrev pub activity_part : List ℤ → (ℕ → Bool) → List ℤ → ℕ → ℕ
activity_part case was rows e = activity_cost case (was e) rows e

unfoldable pub activity_costs : List ℤ → (ℕ → Bool) → List ℤ → ℕ
activity_costs case was rows = sum_n (arcs_of case) (activity_part case was rows)

-- ---- "residual (the left sides of 28 and 33, summed)"

unfoldable pub pipe_part : List ℤ → (ℕ → ℤ) → List ℤ → ℕ → ℕ → ℕ
pipe_part case old rows i e = only_n (is_pipe case e) (pipe_residual case old rows i e)

unfoldable pub pipe_residuals : List ℤ → (ℕ → ℤ) → List ℤ → ℕ → ℕ
pipe_residuals case old rows i = sum_n (arcs_of case) (pipe_part case old rows i)

unfoldable pub node_residuals : List ℤ → List ℤ → ℕ → ℕ
node_residuals case rows i = sum_n (nodes_of case) (node_residual case rows i)

-- ---- "gas in all pipes at 0 and at k": "A pipe's gas is c × (from + to)."

unfoldable pub gas_part : List ℤ → (ℕ → ℤ) → ℕ → ℤ
gas_part case p e = only (is_pipe case e) ((pipe_of case e).c *ℤ (p (arc_of case e).from +ℤ p (arc_of case e).to))

unfoldable pub gas_at : List ℤ → (ℕ → ℤ) → ℤ
gas_at case p = sum (arcs_of case) (gas_part case p)

-- ---- what the step with index i adds

unfoldable pub step_pressure_slack : List ℤ → List ℤ → ℕ → ℤ
step_pressure_slack case plan i = pressure_slack_in case (step_rows case plan i)

unfoldable pub step_demand_slack : List ℤ → List ℤ → ℕ → ℤ
step_demand_slack case plan i = demand_slack_in case (step_rows case plan i)

unfoldable pub step_switching : List ℤ → List ℤ → ℕ → ℕ
step_switching case plan i =
    choice_costs case (direction_chosen case plan i) (state_chosen case plan i) (step_rows case plan i)
    + activity_costs case (active_at case plan i) (step_rows case plan i)

unfoldable pub step_residual : List ℤ → List ℤ → ℕ → ℕ
step_residual case plan i =
    pipe_residuals case (pressure_at case plan i) (step_rows case plan i) i + node_residuals case (step_rows case plan i) i

-- the totals of the first t steps: the gas at time t is the closing gas
unfoldable pub totals_to : List ℤ → List ℤ → ℕ → Totals
totals_to case plan t = record {
  pressure = sum t (step_pressure_slack case plan);
  demand = sum t (step_demand_slack case plan);
  switching = sum_n t (step_switching case plan);
  residual = sum_n t (step_residual case plan);
  opening = gas_at case (pressure_at case plan 0);
  closing = gas_at case (pressure_at case plan t);
}

unfoldable pub totals_of : List ℤ → List ℤ → Totals
totals_of case plan = totals_to case plan (steps_of case)
