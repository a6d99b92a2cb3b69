-- How large what a step adds to the totals can be, and the parts of a cost by the code's tests.
use Rattle.std.specs.Prelude.{◌≡◌, Bool, not, ◌&&◌, List, ℕ, ◌<◌, ◌≤◌, ◌*◌, eqb, ℤ, nat_abs, ◌+ℤ◌, ◌*ℤ◌}
use Rattle.std.proofs.Math.Path.{refl}
use Rattle.std.proofs.Common.{sym, ap, leb-true, eqb-true, eq-eqb, ne_eqb}
use Rattle.std.proofs.Math.Bool.{true, false}
use native.Mathlib.Omega.{arith}
use Rattle.std.proofs.Math.Dec.{leb}
use Rattle.numbers.specs.inside.SignedBounds.{Bounded}
use Rattle.numbers.specs.inside.SignedLocals.{Held, plain, ◌+ʳ◌, ◌*ʳ◌}
use Rattle.numbers.specs.law.Sums.{only, only_n}
use Rattle.numbers.specs.inside.SumLaws.{abs_sum_le, sum_n_bound}
use Rattle.case.specs.law.Extents.{arc_capacity, node_capacity}
use Rattle.plan.specs.inside.SumSizes.{most_demand_slack, most_pressure_slack}
use Rattle.case.specs.law.Layout.{number_at, nodes_of, arcs_of, stations_of}
use Rattle.case.specs.law.Records.{arc_of, pipe_of, artificial_of}
use Rattle.plan.specs.law.PlanRecords.{direction_in, state_in, active_in}
use Rattle.plan.specs.inside.Sizes.{NodesSized, PressuresSized}
use Rattle.plan.specs.inside.Preconditions.{AcceptedCase, ChoicesKept, StepKept}
use Rattle.plan.specs.inside.CaseSizes.{counted, from_node, to_node, pipe_sized, weight_in, direction_weight_lem, state_weight_lem}
use Rattle.plan.specs.law.Pipes.{is_pipe}
use Rattle.plan.specs.law.Balance.{node_residual}
use Rattle.plan.specs.law.Totals.{pressure_slack_at, demand_slack_at, pressure_slack_in, demand_slack_in, pipe_part, pipe_residuals, node_residuals, gas_part}
use Rattle.plan.specs.law.Totals.{changed, direction_cost, state_cost, activity_cost, choice_cost, choice_costs, activity_part, activity_costs}

-- ---- a cost by the code's tests

pub cost_same : {x was : ℕ} (w : ℕ) → x ≡ was → 0 ≡ only_n (not (eqb x was)) w
cost_same {x} {was} w e = ap (λ (b : Bool). only_n (not b) w) (sym (eq-eqb x was e))

pub cost_new : {x was : ℕ} (w : ℕ) → (x ≡ was → ⊥) → w ≡ only_n (not (eqb x was)) w
cost_new {x} {was} w n = ap (λ (b : Bool). only_n (not b) w) (sym (ne_eqb x was n))

pub both_yes : {a b : Bool} (w : ℕ) → a ≡ true → b ≡ true → w ≡ only_n (a && b) w
both_yes w p q = rw (p, q)

pub first_no_lem : {a : Bool} (b : Bool) (w : ℕ) → a ≡ false → 0 ≡ only_n (a && b) w
first_no_lem b w p = rw p

pub second_no : {a b : Bool} (w : ℕ) → a ≡ true → b ≡ false → 0 ≡ only_n (a && b) w
second_no w p q = rw (p, q)

pub only_le : {n : ℕ} (b : Bool) (w : ℕ) → w ≤ n → only_n b w ≤ n
only_le true w h = h
only_le false w h = omega arith

pub only_small : (b : Bool) (z : ℤ) (x : ℕ) → (b ≡ true → nat_abs z ≤ x) → nat_abs (only b z) ≤ x
only_small true z x h = h refl
only_small false z x h = omega arith

sized : {z : ℤ} {n : ℕ} → Bounded z n → Held z z n
sized h = plain h.bound

-- ---- the parts

module _ {case : List ℤ} (c : AcceptedCase case) where
  pub pipe_gas : {p : ℕ → ℤ} → PressuresSized p (nodes_of case) → (e : ℕ) → e < arcs_of case → is_pipe case e ≡ true
      → nat_abs ((pipe_of case e).c *ℤ (p (arc_of case e).from +ℤ p (arc_of case e).to)) ≤ 40000000000000
  pipe_gas h e q k =
      let a = h.each (arc_of case e).from (from_node c e q) in
      let b = h.each (arc_of case e).to (to_node c e q) in
      (sized (pipe_sized c e q (eqb-true (arc_of case e).kind 2 k)).c *ʳ (sized a +ʳ sized b)).bound

  pub gas_small : {p : ℕ → ℤ} → PressuresSized p (nodes_of case) → (e : ℕ) → e < arcs_of case → nat_abs (gas_part case p e) ≤ 40000000000000
  unfolding gas_part
  gas_small h e q = only_small (is_pipe case e) _ 40000000000000 (pipe_gas h e q)

  pub activity_le : (was : Bool) (rows : List ℤ) (e : ℕ) → e < arcs_of case → activity_cost case was rows e ≤ 1000000
  unfolding activity_cost
  activity_le was rows e q = go (leb 3 (arc_of case e).kind) refl
    where
      go : (a : Bool) → leb 3 (arc_of case e).kind ≡ a → only_n (a && changed was (active_in case rows e)) (artificial_of case e).weight ≤ 1000000
      go true k = only_le (changed was (active_in case rows e)) (artificial_of case e).weight (weight_in c e q (leb-true 3 (arc_of case e).kind k))
      go false k = omega arith

  module _ {rows : List ℤ} (h : ChoicesKept case rows) (s : ℕ) (q : s < stations_of case) where
    pub direction_le : (was : ℕ) → direction_cost case was rows s ≤ 1000000
    unfolding direction_cost
    direction_le was = only_le (not (eqb (direction_in case rows s) was)) _ (direction_weight_lem c s q (direction_in case rows s) (h.direction s q))

    pub state_le : (was : ℕ) → state_cost case was rows s ≤ 1000000
    unfolding state_cost
    state_le was = only_le (not (eqb (state_in case rows s) was)) _ (state_weight_lem c s q (state_in case rows s) (h.state s q))

module _ {case rows : List ℤ} (h : NodesSized case rows) (v : ℕ) (q : v < nodes_of case) where
  pub pressure_slack_le : nat_abs (pressure_slack_at rows v) ≤ 800000
  unfolding pressure_slack_at
  pressure_slack_le = let r = h.each v q in (sized r.uplus +ʳ sized r.uminus).bound

  pub demand_slack_le : nat_abs (demand_slack_at rows v) ≤ 20000000
  unfolding demand_slack_at
  demand_slack_le = let r = h.each v q in (sized r.splus +ʳ sized r.sminus).bound

-- ---- the sums of a step

module _ {case : List ℤ} (rows : List ℤ) (c : AcceptedCase case) where
  pub pressure_slack_sized : NodesSized case rows → Bounded (pressure_slack_in case rows) most_pressure_slack
  unfolding pressure_slack_in
  pressure_slack_sized h = record { bound = omega (arith, abs_sum_le (nodes_of case) 800000 (pressure_slack_at rows) (pressure_slack_le h), (counted c).nodes) }

  pub demand_slack_sized : NodesSized case rows → Bounded (demand_slack_in case rows) most_demand_slack
  unfolding demand_slack_in
  demand_slack_sized h = record { bound = omega (arith, abs_sum_le (nodes_of case) 20000000 (demand_slack_at rows) (demand_slack_le h), (counted c).nodes) }

  pub choice_costs_le : ChoicesKept case rows → (f z : ℕ → ℕ) → choice_costs case f z rows ≤ 16000000
  unfolding choice_costs choice_cost
  choice_costs_le h f z =
      let b = sum_n_bound (stations_of case) 2000000 (choice_cost case f z rows) (λ s q. omega (arith, direction_le c h s q (f s), state_le c h s q (z s))) in
      omega (arith, b, (counted c).stations)

  pub activity_costs_le : (was : ℕ → Bool) → activity_costs case was rows ≤ arc_capacity * 1000000
  unfolding activity_costs
  activity_costs_le was =
      let b = sum_n_bound (arcs_of case) 1000000 (activity_part case was rows) (λ e q. activity_le c (was e) rows e q) in
      omega (arith, b, (counted c).arcs)

  module _ {old : List ℤ} {i : ℕ} (k : StepKept case old rows i) where
    pub pipe_residuals_le : pipe_residuals case (number_at old) rows i ≤ arc_capacity * 1000000
    unfolding pipe_residuals
    pipe_residuals_le =
        let b = sum_n_bound (arcs_of case) 1000000 (pipe_part case (number_at old) rows i) k.pipes in
        omega (arith, b, (counted c).arcs)

    pub node_residuals_le : node_residuals case rows i ≤ node_capacity * 1000000
    unfolding node_residuals
    node_residuals_le =
        let b = sum_n_bound (nodes_of case) 1000000 (node_residual case rows i) k.nodes in
        omega (arith, b, (counted c).nodes)
