-- Each part that the code sums over nodes, arcs or stations is small: what the closure of an index answers is the law's part of that index.
use Rattle.std.proofs.Common.{Fits, w64, ◌≡◌, ℕ, ◌+◌, ◌<◌, ◌≤◌, Bool, arith, List}
use Rattle.std.proofs.Math.IntN.{ℤ, nat_abs}
use Rattle.case.specs.law.Layout.{number_at, nodes_of, arcs_of, stations_of}
use Rattle.case.specs.law.Extents.{arc_capacity}
use Rattle.plan.specs.law.PlanRecords.{node_row}
use Rattle.plan.specs.law.Totals.{gas_part, pressure_slack_at, demand_slack_at, direction_cost, state_cost, activity_cost}
use Rattle.plan.specs.inside.SumSizes.{most_part}
use Rattle.plan.specs.inside.Sizes.{NodeRowSized, NodesSized, FlowsSized, PressuresSized}
use Rattle.plan.specs.inside.Preconditions.{AcceptedCase, ChoicesKept, StepKept}
use Rattle.plan.specs.inside.CaseSizes.{counted}
use Rattle.plan.specs.inside.StepSizes.{gas_small, pressure_slack_le, demand_slack_le, direction_le, state_le, activity_le}
use Rattle.plan.specs.inside.StepSizes.{pressure_slack_sized, demand_slack_sized, choice_costs_le, activity_costs_le, pipe_residuals_le, node_residuals_le}
use Rattle.plan.specs.law.Region.{inner_gas, edge_flow, region_supply}
use Rattle.plan.specs.law.RegionResidual.{own_node, own_pipe}
use Rattle.plan.specs.inside.RegionSizes.{inner_gas_small, edge_small, supply_small, own_node_small, own_pipe_small}

module _ {case : List ℤ} {n : ℕ} (c : AcceptedCase case) (e : n ≡ arcs_of case) where
  pub few_arcs : n ≤ arc_capacity
  few_arcs = omega (arith, (counted c).arcs)

  pub arc_placed : {i : ℕ} → i < n → i < arc_capacity
  arc_placed l = omega (arith, (counted c).arcs)

module _ {case rows : List ℤ} {n v : ℕ} (h : NodesSized case rows) (e : n ≡ nodes_of case) (l : v < n) where
  pub row_sized : NodeRowSized (node_row rows v)
  row_sized = h.each v (omega arith)

  pub pressure_slack_small : {r : ℤ} → r ≡ pressure_slack_at rows v → nat_abs r ≤ most_part
  pressure_slack_small q = rw q (omega (arith, pressure_slack_le h v (omega arith)))

  pub demand_slack_small : {r : ℤ} → r ≡ demand_slack_at rows v → nat_abs r ≤ most_part
  demand_slack_small q = rw q (omega (arith, demand_slack_le h v (omega arith)))

module _ {case rows : List ℤ} (c : AcceptedCase case) (h : ChoicesKept case rows) where
  pub choice_small : (f z : ℕ) {r s : ℕ} → r ≡ direction_cost case f rows s + state_cost case z rows s → s < stations_of case → r ≤ most_part
  choice_small f z {s = s} q l = omega (arith, direction_le c h s l f, state_le c h s l z)

  pub choice_fits : (f z : ℕ) {s x y : ℕ} → x ≡ direction_cost case f rows s → y ≡ state_cost case z rows s → s < stations_of case → Fits w64 (x + y)
  choice_fits f z {s = s} p q l = record { fits = omega (arith, direction_le c h s l f, state_le c h s l z) }

pub activity_small : {case : List ℤ} (rows : List ℤ) (was : Bool) {n e r : ℕ} → r ≡ activity_cost case was rows e → AcceptedCase case → n ≡ arcs_of case
    → e < n → r ≤ most_part
activity_small rows was {e = e} q c m l = omega (arith, activity_le c was rows e (omega arith))

pub gas_part_small : {case : List ℤ} {p : ℕ → ℤ} {n e : ℕ} {r : ℤ} → r ≡ gas_part case p e → AcceptedCase case → n ≡ arcs_of case
    → PressuresSized p (nodes_of case) → e < n → nat_abs r ≤ most_part
gas_part_small {e = e} q c m h l = rw q (omega (arith, gas_small c h e (omega arith)))

-- ---- of a region

module _ {case : List ℤ} {p : ℕ → ℤ} (inside : ℕ → Bool) {n e : ℕ} {r : ℤ} (q : r ≡ inner_gas case inside p e) where
  pub inner_gas_part : AcceptedCase case → PressuresSized p (nodes_of case) → n ≡ arcs_of case → e < n → nat_abs r ≤ most_part
  inner_gas_part c h m l = rw q (omega (arith, inner_gas_small c h inside e (omega arith)))

module _ {case rows : List ℤ} (inside : ℕ → Bool) {n e : ℕ} {r : ℤ} (q : r ≡ edge_flow case inside rows e) where
  pub edge_part : FlowsSized case rows → n ≡ arcs_of case → e < n → nat_abs r ≤ most_part
  edge_part h m l = rw q (omega (arith, edge_small h inside e (omega arith)))

module _ {case rows : List ℤ} (inside : ℕ → Bool) {n v : ℕ} {r : ℤ} (q : r ≡ region_supply inside rows v) where
  pub supply_part : NodesSized case rows → n ≡ nodes_of case → v < n → nat_abs r ≤ most_part
  supply_part h m l = rw q (omega (arith, supply_small h inside v (omega arith)))

module _ {case old rows : List ℤ} {i n k r : ℕ} (inside : ℕ → Bool) (c : AcceptedCase case) (h : StepKept case old rows i) where
  pub own_node_part : r ≡ own_node case inside rows i k → n ≡ nodes_of case → k < n → r ≤ most_part
  own_node_part q m l = omega (arith, own_node_small c h inside k (omega arith))

  pub own_pipe_part : r ≡ own_pipe case inside (number_at old) rows i k → n ≡ arcs_of case → k < n → r ≤ most_part
  own_pipe_part q m l = omega (arith, own_pipe_small c h inside k (omega arith))

-- a node's row
pub each_row : (case rows : List ℤ) → NodesSized case rows → (v : ℕ) → v < nodes_of case → NodeRowSized (node_row rows v)
each_row case rows h = h.each

pub few_rows : (case : List ℤ) → AcceptedCase case → (v : ℕ) → v < nodes_of case → v < 1000000
few_rows case c v l = omega (arith, (counted c).nodes)

pub ruleset rows = (each_row, few_rows)

-- what a sum over nodes, arcs or stations asks of its parts
pub ruleset parts = (
  counted,
  few_arcs,
  arc_placed,
  row_sized,
  pressure_slack_small,
  demand_slack_small,
  choice_small,
  choice_fits,
  activity_small,
  gas_part_small,
  inner_gas_part,
  edge_part,
  supply_part,
  own_node_part,
  own_pipe_part,
)

-- how large the sums of a step are
pub ruleset step_sums = (pressure_slack_sized, demand_slack_sized, choice_costs_le, activity_costs_le, pipe_residuals_le, node_residuals_le)
