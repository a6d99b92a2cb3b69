-- What an artificial arc puts to a node, and 32 of one node.
use Rattle.plan.proofs.Common.{◌≡◌, ap, ◌∙◌, Bool, true, false, ℕ, ◌<◌, ◌≤◌, arith, counted, le-leb, lt-leb, ne_eqb, leb, eqb, ℤ, pos, nat_abs, ◌-ℤ◌}
use mathlib.Core.List.{List}
use Rattle.numbers.specs.law.Sums.{sum, only}
use Rattle.numbers.specs.inside.SumLaws.{abs_only_le}
use Rattle.case.specs.law.Layout.{nodes_of, arcs_of, stations_of}
use Rattle.case.specs.law.LayoutOf.{Holds}
use Rattle.case.specs.law.Records.{arc_of, direction_of}
use Rattle.case.specs.inside.CountLaws.{every_more, every_not}
use Rattle.case.specs.inside.InSet.{in_both}
use Rattle.case.specs.law.StationNodes.{station_nodes, plain_nodes}
use Rattle.case.specs.declared.records.Direction.{Direction}
use Rattle.plan.specs.law.Pipes.{is_pipe}
use Rattle.plan.specs.law.Balance.{flow_at_from, flow_at_to}
use Rattle.plan.specs.law.StationRules.{fence_node_kept, fence_kept}
use Rattle.plan.specs.inside.StationPass.{artificial_part, artificial_flow}
use Rattle.plan.specs.inside.Sizes.{FlowsSized}
use Rattle.plan.specs.inside.Preconditions.{AcceptedCase}
use Rattle.plan.proofs.Asked.{questions}
use Rattle.plan.proofs.ArcLaws.{from_small, to_small}
use Rattle.plan.proofs.NetFlows.{put_sized, Gathers, gathers_sized}
use Rattle.plan.proofs.NodeParts.{difference, from_sized, to_sized}
use Rattle.plan.proofs.FenceFlows.{fence_passed}
use Rattle.plan.proofs.StationPasses.{active_bits_lem}

module _ (case rows : List ℤ) (e i : ℕ) where
  pub artificial_part_lem : {kind from to : ℕ} {x y : ℤ} → kind ≡ (arc_of case e).kind → 3 ≤ kind → from ≡ (arc_of case e).from → to ≡ (arc_of case e).to
      → x ≡ flow_at_from case rows e → y ≡ flow_at_to case rows e → artificial_part case rows i e ≡ only (eqb from i) x -ℤ only (eqb to i) y
  unfolding artificial_part flow_at_from flow_at_to
  artificial_part_lem {kind} k l p q x y =
      let b : leb 3 (arc_of case e).kind ≡ true = le-leb 3 (arc_of case e).kind (omega (arith, k)) in
      let n : is_pipe case e ≡ false = ne_eqb (arc_of case e).kind 2 (λ z. omega (arith, k, z)) in
      rw (b, p, q, x, y, n)

  pub artificial_none : {kind : ℕ} → kind ≡ (arc_of case e).kind → kind < 3 → artificial_part case rows i e ≡ pos 0
  unfolding artificial_part
  artificial_none {kind} k l = let b : leb 3 (arc_of case e).kind ≡ false = lt-leb 3 (arc_of case e).kind (omega (arith, k)) in rw b

  pub artificial_sized : FlowsSized case rows → e < arcs_of case → nat_abs (artificial_part case rows i e) ≤ 40000000
  unfolding artificial_part
  artificial_sized z p =
      let d = difference (z.each e p).a (z.each e p).b in
      abs_only_le (leb 3 (arc_of case e).kind) _ (put_sized (eqb (arc_of case e).from i) (eqb (arc_of case e).to i) d d)

pub artificial_gathered : {case : List ℤ} (rows : List ℤ) {net : List ℤ} {e : ℕ} → AcceptedCase case → Gathers net (artificial_part case rows) e
    → e ≡ arcs_of case → Holds (pos 0) net (artificial_flow case rows) (nodes_of case)
unfolding artificial_flow
artificial_gathered {case} rows c g q = record {
  each = λ i p. g.each i (omega (arith, p, (counted c).nodes)) ∙ ap (λ (n : ℕ). sum n (artificial_part case rows i)) q;
}

-- what one artificial arc puts to the nodes
pub ruleset artificial_laws = (counted, from_small, to_small, from_sized, to_sized, artificial_sized, gathers_sized)

-- ---- 32 of one node

pub fence_node : {case : List ℤ} → AcceptedCase case → (rows : List ℤ) (s f v : ℕ) {chosen : Direction} {inside plain flow : ℤ} {r : Bool}
    → v < nodes_of case → s < stations_of case
    → chosen ≡ direction_of case s f → inside ≡ station_nodes case s → plain ≡ plain_nodes case → flow ≡ artificial_flow case rows v
    → r ≡ fence_node_kept (in_both inside plain) chosen v flow → r ≡ fence_kept case rows s f v
unfolding in_both
fence_node {case} a rows s f v l m p q r t e = rw (p, q, r, t) at e ∙ fence_passed a v l rows s m (direction_of case s f)

-- 32 of the nodes passed, and of one more
pub ruleset fence_laws = (questions, counted, fence_node, every_more, every_not)

-- what a station chose and what was gathered of it
pub ruleset choice_laws = (questions, counted, active_bits_lem)
