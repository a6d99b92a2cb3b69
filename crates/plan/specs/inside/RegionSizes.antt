-- The sizes of a region's summands and sums, by which none is too large for the machine.
use Rattle.std.specs.Prelude.{◌≡◌, refl, Bool, cond, ◌&&◌, List, ℕ, ◌<◌, ◌≤◌, ◌+◌, ℤ, neg_ℤ, ◌+ℤ◌, ◌-ℤ◌}
use Rattle.std.proofs.Math.Bool.{true, false}
use native.Mathlib.Omega.{arith}
use Rattle.std.proofs.Math.Nat.{mul-le-mul, mul-le-mul_right}
use Rattle.std.proofs.Math.IntN.{nat_abs}
use Rattle.numbers.specs.inside.SignedBounds.{abs_add, abs_neg, abs_mul}
use Rattle.numbers.specs.law.Sums.{only_n}
use Rattle.numbers.specs.inside.SumLaws.{abs_sum_le, abs_only_le, sum_n_bound}
use Rattle.case.specs.law.Extents.{node_capacity}
use Rattle.plan.specs.inside.SumSizes.{most_brought, most_edges, most_residual, most_supplies}
use Rattle.case.specs.law.Layout.{number_at, nodes_of, arcs_of, steps_of}
use Rattle.plan.specs.law.PlanRecords.{arc_row}
use Rattle.plan.specs.law.Pipes.{duration, is_pipe}
use Rattle.plan.specs.law.Balance.{flow_at_from, flow_at_to}
use Rattle.plan.specs.law.Totals.{pipe_part}
use Rattle.plan.specs.inside.Sizes.{PressuresSized, FlowsSized, NodesSized}
use Rattle.plan.specs.law.Region.{begins_in, ends_in, inner_pipe, inner_gas, region_supply, inward, edge_flow, supplies_in, edge_flows, brought_in}
use Rattle.plan.specs.law.RegionResidual.{own_node, own_pipe, own_nodes, own_pipes, region_residual}
use Rattle.plan.specs.inside.Preconditions.{AcceptedCase, StepKept}
use Rattle.plan.specs.inside.RegionBalance.{EndsAreNodes}
use Rattle.plan.specs.inside.CaseSizes.{counted, cond_sized, duration_sized, from_node, to_node}
use Rattle.plan.specs.inside.StepSizes.{only_le, only_small, pipe_gas}

pub ends_nodes : {case : List ℤ} → AcceptedCase case → EndsAreNodes case
ends_nodes c = record { from_node = from_node c; to_node = to_node c }

-- what a test that passed says of its parts
pub both_true : (a b : Bool) → a && b ≡ true → a ≡ true
both_true true b h = refl
both_true false b h = h

module _ {case : List ℤ} {p : ℕ → ℤ} (c : AcceptedCase case) (h : PressuresSized p (nodes_of case)) where
  pub inner_gas_small : (inside : ℕ → Bool) (e : ℕ) → e < arcs_of case → nat_abs (inner_gas case inside p e) ≤ 40000000000000
  unfolding inner_gas
  inner_gas_small inside e l =
      only_small (inner_pipe case inside e) _ 40000000000000 (λ k. pipe_gas c h e l (both_true (is_pipe case e) _ k))

-- the flow at one end of an arc: of a pipe the flow there, of any other arc the difference
end_small : (k : Bool) (x a b : ℤ) → nat_abs x ≤ 10000000 → nat_abs a ≤ 10000000 → nat_abs b ≤ 10000000 → nat_abs (cond k x (a -ℤ b)) ≤ 20000000
end_small k x a b h m n = cond_sized k x (a -ℤ b) (omega arith) (omega (arith, abs_add a (neg_ℤ b), abs_neg b))

module _ {case rows : List ℤ} (h : FlowsSized case rows) where
  pub from_small : (e : ℕ) → e < arcs_of case → nat_abs (flow_at_from case rows e) ≤ 20000000
  unfolding flow_at_from
  from_small e l =
      let s = h.each e l in
      let r = arc_row case rows e in
      end_small (is_pipe case e) r.a r.a r.b s.a.bound s.a.bound s.b.bound

  pub to_small : (e : ℕ) → e < arcs_of case → nat_abs (flow_at_to case rows e) ≤ 20000000
  unfolding flow_at_to
  to_small e l =
      let s = h.each e l in
      let r = arc_row case rows e in
      end_small (is_pipe case e) r.b r.a r.b s.b.bound s.a.bound s.b.bound

  pub edge_small : (inside : ℕ → Bool) (e : ℕ) → e < arcs_of case → nat_abs (edge_flow case inside rows e) ≤ 20000000
  unfolding edge_flow
  edge_small inside e l = go (begins_in case inside e) (ends_in case inside e) (flow_at_from case rows e) (flow_at_to case rows e)
      (from_small e l) (to_small e l)
    where
      go : (f g : Bool) (x y : ℤ) → nat_abs x ≤ 20000000 → nat_abs y ≤ 20000000 → nat_abs (inward f g x y) ≤ 20000000
      go true true x y m n = omega arith
      go true false x y m n = omega (arith, abs_neg x)
      go false true x y m n = n
      go false false x y m n = omega arith

  pub edges_small : AcceptedCase case → (inside : ℕ → Bool) → nat_abs (edge_flows case inside rows) ≤ most_edges
  unfolding edge_flows
  edges_small c inside =
      let r = counted c in
      omega (arith, abs_sum_le (arcs_of case) 20000000 (edge_flow case inside rows) (edge_small inside), mul-le-mul_right 20000000 r.arcs)

pub supply_small : {case rows : List ℤ} → NodesSized case rows → (inside : ℕ → Bool) (u : ℕ) → u < nodes_of case
    → nat_abs (region_supply inside rows u) ≤ 10000000
unfolding region_supply
supply_small h inside u l = abs_only_le (inside u) _ (h.each u l).d.bound

pub supplies_small : {case rows : List ℤ} → NodesSized case rows → nodes_of case ≤ node_capacity → (inside : ℕ → Bool)
    → nat_abs (supplies_in case inside rows) ≤ most_supplies
unfolding supplies_in
supplies_small {case} {rows} h few inside =
    omega (arith, abs_sum_le (nodes_of case) 10000000 (region_supply inside rows) (supply_small h inside), mul-le-mul_right 10000000 few)

module _ {case old rows : List ℤ} {i : ℕ} (c : AcceptedCase case) (h : StepKept case old rows i) where
  pub brought_small : i < steps_of case → (inside : ℕ → Bool) → nat_abs (brought_in case inside rows i) ≤ most_brought
  unfolding brought_in
  brought_small t inside =
      let r = counted c in
      let a = supplies_in case inside rows in
      let b = edge_flows case inside rows in
      let d = supplies_small h.node_rows r.nodes inside in
      let w : nat_abs (a +ℤ b) ≤ (most_supplies + most_edges) = omega (arith, abs_add a b, d, edges_small h.flows c inside) in
      omega (arith, abs_mul (duration case i) (a +ℤ b), mul-le-mul (duration_sized c i t).bound w)

  pub own_node_small : (inside : ℕ → Bool) (u : ℕ) → u < nodes_of case → own_node case inside rows i u ≤ 1000000
  unfolding own_node
  own_node_small inside u l = only_le (inside u) _ (h.nodes u l)

  pub own_pipe_small : (inside : ℕ → Bool) (e : ℕ) → e < arcs_of case → own_pipe case inside (number_at old) rows i e ≤ 1000000
  unfolding own_pipe pipe_part
  own_pipe_small inside e l = go (is_pipe case e) (begins_in case inside e && ends_in case inside e) _ (h.pipes e l)
    where
      go : (b w : Bool) (n : ℕ) → only_n b n ≤ 1000000 → only_n (b && w) n ≤ 1000000
      go true w n q = only_le w n q
      go false w n q = q

  pub residual_small : (inside : ℕ → Bool) → region_residual case inside (number_at old) rows i ≤ most_residual
  unfolding region_residual own_nodes own_pipes
  residual_small inside =
      let r = counted c in
      omega (
        arith,
        sum_n_bound (nodes_of case) 1000000 (own_node case inside rows i) (own_node_small inside),
        sum_n_bound (arcs_of case) 1000000 (own_pipe case inside (number_at old) rows i) (own_pipe_small inside),
        mul-le-mul_right 1000000 r.nodes,
        mul-le-mul_right 1000000 r.arcs,
      )
