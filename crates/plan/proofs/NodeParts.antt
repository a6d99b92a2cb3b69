-- A node's net flow is the sum of what each arc puts to it, so it is bounded by what the arcs can put.
use Rattle.plan.specs.inside.SumSizes.{most_net, most_node_residual}
use Rattle.plan.proofs.Common.{◌≡◌, ◌∙◌, Bool, true, false, ℕ, ◌+◌, ◌<◌, ◌≤◌, arith, eqb, ℤ, pos, nat_abs, ◌-ℤ◌, counted}
use Rattle.plan.proofs.Common.{ap, w64, to_z, of_z, Held, held, ◌-ʳ◌}
use mathlib.Core.Bool.{cond}
use mathlib.Core.List.{List}
use native.Mathlib.Nat.{mul-le-mul}
use lib.IntN.{neg_ℤ}
use Rattle.numbers.specs.inside.SignedBounds.{Bounded, abs_add, abs_neg}
use Rattle.numbers.specs.law.Sums.{sum, only}
use Rattle.numbers.specs.inside.SumLaws.{sum_sub, abs_sum_le}
use Rattle.case.specs.law.Layout.{nodes_of, arcs_of, steps_of}
use Rattle.case.specs.law.LayoutOf.{Holds}
use Rattle.plan.specs.declared.rows.NodeRow.{NodeRow}
use Rattle.case.specs.law.Records.{arc_of}
use Rattle.plan.specs.law.PlanRecords.{node_row}
use Rattle.plan.specs.law.Pipes.{is_pipe}
use Rattle.plan.specs.law.Balance.{flow_at_from, flow_at_to, out_part, in_part, outflow, inflow, net_flow}
use Rattle.plan.specs.law.Balance.{node_imbalance, node_residual}
use Rattle.plan.specs.inside.Sizes.{FlowsSized, NodesSized}
use Rattle.plan.specs.inside.Preconditions.{AcceptedCase}
use Rattle.plan.specs.inside.CaseSizes.{duration_sized, mass_sized}
use Rattle.plan.proofs.ArcLaws.{from_small, to_small}
use Rattle.plan.proofs.NetFlows.{put_sized, Gathers, gathers_more, gathers_sized}
use Rattle.plan.proofs.SignedReads.{read}
use Rattle.plan.proofs.Adding.{sum_n_none, sum_n_more}

-- the flow at an end: one of the row's two, or their difference
pub difference : {a b : ℤ} → Bounded a 10000000 → Bounded b 10000000 → Bounded (a -ℤ b) 20000000
difference {a} {b} h k = record { bound = omega (arith, abs_add a (neg_ℤ b), abs_neg b, h.bound, k.bound) }

-- and as it is read off the row
pub flow_read : {a b x y : ℤ} → a ≡ x → b ≡ y → Bounded x 10000000 → Bounded y 10000000
    → to_z w64 (of_z w64 (to_z w64 (of_z w64 a) -ℤ to_z w64 (of_z w64 b))) ≡ x -ℤ y
flow_read p q h k = (held (read p h tt -ʳ read q k tt) tt).val

end_sized : (p : Bool) {a b x : ℤ} → Bounded a 10000000 → Bounded b 10000000 → Bounded x 10000000 → Bounded (cond p x (a -ℤ b)) 20000000
end_sized true h k l = record { bound = omega (arith, l.bound) }
end_sized false h k l = difference h k

-- what arc e takes out of node i less what it brings
unfoldable pub node_part : List ℤ → List ℤ → ℕ → ℕ → ℤ
node_part case rows i e = out_part case rows i e -ℤ in_part case rows i e

pub net_flow_lem : (case rows : List ℤ) (i : ℕ) → sum (arcs_of case) (node_part case rows i) ≡ net_flow case rows i
unfolding node_part outflow inflow net_flow
net_flow_lem case rows i = sum_sub (arcs_of case) (out_part case rows i) (in_part case rows i)

pub node_part_lem : (case rows : List ℤ) (e i : ℕ) {from to : ℕ} {out into : ℤ} → from ≡ (arc_of case e).from → to ≡ (arc_of case e).to
    → out ≡ flow_at_from case rows e → into ≡ flow_at_to case rows e → node_part case rows i e ≡ only (eqb from i) out -ℤ only (eqb to i) into
unfolding node_part out_part in_part
node_part_lem case rows e i p q r s = rw (p, q, r, s)

module _ {case rows : List ℤ} (z : FlowsSized case rows) where
  pub from_sized : (e : ℕ) → e < arcs_of case → Bounded (flow_at_from case rows e) 20000000
  unfolding flow_at_from
  from_sized e p = end_sized (is_pipe case e) (z.each e p).a (z.each e p).b (z.each e p).a

  pub to_sized : (e : ℕ) → e < arcs_of case → Bounded (flow_at_to case rows e) 20000000
  unfolding flow_at_to
  to_sized e p = end_sized (is_pipe case e) (z.each e p).a (z.each e p).b (z.each e p).b

  pub part_sized : (i e : ℕ) → e < arcs_of case → nat_abs (node_part case rows i e) ≤ 40000000
  unfolding node_part out_part in_part
  part_sized i e p = put_sized (eqb (arc_of case e).from i) (eqb (arc_of case e).to i) (from_sized e p) (to_sized e p)

  pub net_sized : AcceptedCase case → (i : ℕ) → Bounded (net_flow case rows i) most_net
  net_sized c i = record {
    bound = rw (← net_flow_lem case rows i) (omega (arith, abs_sum_le (arcs_of case) 40000000 (node_part case rows i) (part_sized i), (counted c).arcs));
  }

  pub net_gathered : {net : List ℤ} {e : ℕ} → AcceptedCase case → Gathers net (node_part case rows) e → e ≡ arcs_of case
      → Holds (pos 0) net (net_flow case rows) (nodes_of case)
  net_gathered c g q = record {
    each = λ i p. g.each i (omega (arith, p, (counted c).nodes)) ∙ ap (λ (n : ℕ). sum n (node_part case rows i)) q ∙ net_flow_lem case rows i;
  }

-- ---- 33 of one node

module _ {case rows : List ℤ} {v : ℕ} (c : AcceptedCase case) (f : FlowsSized case rows) (n : NodesSized case rows) (l : v < nodes_of case) where
  imbalance_sized : nat_abs (node_imbalance case rows v) ≤ (most_net + 10000000)
  unfolding node_imbalance
  imbalance_sized =
      let d = (node_row rows v).d in
      let net = (net_sized f c v).bound in
      omega (arith, abs_add (net_flow case rows v) (neg_ℤ d), abs_neg d, net, (n.each v l).d.bound)

  pub residual_sized : {i : ℕ} → i < steps_of case → node_residual case rows i v ≤ most_node_residual
  unfolding node_residual
  residual_sized {i} h = omega (arith, mul-le-mul (duration_sized c i h).bound imbalance_sized)

  -- the imbalance as it is read
  pub left_is : {net : ℤ} {r : NodeRow} → net ≡ net_flow case rows v → r ≡ node_row rows v
      → Held (to_z w64 (of_z w64 net) -ℤ to_z w64 (of_z w64 r.d)) (node_imbalance case rows v) (most_net + 10000000)
  unfolding node_imbalance
  left_is e q = read e (net_sized f c v) tt -ʳ read (ap (λ (r : NodeRow). r.d) q) (n.each v l).d tt

-- what the loop over the nodes leans on
pub ruleset balance_laws = (counted, mass_sized, net_sized, residual_sized, sum_n_none, sum_n_more)

-- what one arc puts to the nodes
pub ruleset flow_laws = (counted, from_small, to_small, from_sized, to_sized, part_sized, node_part_lem, gathers_more, gathers_sized)
