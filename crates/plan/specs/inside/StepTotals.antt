-- What a step adds to the totals, as the loop over the steps has it.
use Rattle.std.specs.Prelude.{◌≡◌, List, ℕ, ◌+◌, ◌≤◌, ℤ, pos, ◌+ℤ◌}
use Rattle.numbers.specs.inside.SignedBounds.{Bounded}
use Rattle.case.specs.law.Layout.{number_at}
use Rattle.plan.specs.declared.previous.Previous.{Previous}
use Rattle.plan.specs.declared.totals.Totals.{Totals}
use Rattle.plan.specs.declared.totals.Slacks.{Slacks}
use Rattle.plan.specs.inside.PreviousHolds.{active_of, index_of}
use Rattle.plan.specs.law.Totals.{pressure_slack_in, demand_slack_in, choice_costs, activity_costs, pipe_residuals, node_residuals, gas_at}

pub record Slacked (case rows : List ℤ) (s : Slacks) : Type 0 where
  pub pressure : s.pressure ≡ pressure_slack_in case rows
  pub demand : s.demand ≡ demand_slack_in case rows

-- totals that have room for one step more
pub record TotalsSized (t : Totals) : Type 0 where
  pub pressure : Bounded t.pressure 1000000000000000
  pub demand : Bounded t.demand 1000000000000000
  pub switching : t.switching ≤ 1000000000000000
  pub residual : t.residual ≤ 1000000000000000

-- `u` is `t` with the step added whose part of the plan is `rows`; the closing gas is left to the end
pub record Added (case rows : List ℤ) (p : Previous) (i : ℕ) (t u : Totals) : Type 0 where
  pub pressure : u.pressure ≡ t.pressure +ℤ pressure_slack_in case rows
  pub demand : u.demand ≡ t.demand +ℤ demand_slack_in case rows
  pub switching : u.switching
      ≡ t.switching + (choice_costs case (index_of p.directions) (index_of p.states) rows + activity_costs case (active_of p.active) rows)
  pub residual : u.residual ≡ t.residual + (pipe_residuals case (number_at p.pressures) rows i + node_residuals case rows i)
  pub opening : u.opening ≡ t.opening

-- no totals yet, but for the gas at the pressures p
pub record Opened (case : List ℤ) (p : ℕ → ℤ) (t : Totals) : Type 0 where
  pub pressure : t.pressure ≡ pos 0
  pub demand : t.demand ≡ pos 0
  pub switching : t.switching ≡ 0
  pub residual : t.residual ≡ 0
  pub opening : t.opening ≡ gas_at case p

-- `u` is `t` with the gas at the pressures p as the closing gas
pub record Closed (case : List ℤ) (p : ℕ → ℤ) (t u : Totals) : Type 0 where
  pub pressure : u.pressure ≡ t.pressure
  pub demand : u.demand ≡ t.demand
  pub switching : u.switching ≡ t.switching
  pub residual : u.residual ≡ t.residual
  pub opening : u.opening ≡ t.opening
  pub closing : u.closing ≡ gas_at case p
