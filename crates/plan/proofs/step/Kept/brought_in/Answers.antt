-- One term follows the code's sum and product, and says both that they fit and what they are.
use Rattle.plan.specs.inside.SumSizes.{most_brought, most_edges, most_supplies}
use Rattle.plan.proofs.Common.{◌≡◌, ℕ, Bool, ℤ, w64, to_z, of_z, Held, held, held_fits, ◌+ʳ◌, ◌*ʳ◌, ◌+◌, ◌+ℤ◌}
use lib.IntN.{◌*ℤ◌}
use Rattle.plan.specs.law.Pipes.{duration}
use Rattle.plan.specs.law.Region.{supplies_in, edge_flows, brought_in}
use Rattle.plan.specs.inside.CaseSizes.{counted, duration_sized}
use Rattle.plan.specs.declared.step.Kept.{Kept}
use Rattle.plan.specs.inside.RegionSizes.{supplies_small, edges_small}
use Rattle.plan.proofs.SignedReads.{read}
use Rattle.plan.proofs.step.Kept.brought_in.Goals as goal

module _ (k : Kept) (inside : ℕ → Bool) {x y : ℤ} (p : x ≡ supplies_in k.step.case.list.now inside k.step.rows.now)
    (q : y ≡ edge_flows k.step.case.list.now inside k.step.rows.now) where
  -- what the nodes supply and the edge brings, added
  inflow : Held (to_z w64 (of_z w64 x) +ℤ to_z w64 (of_z w64 y))
      (supplies_in k.step.case.list.now inside k.step.rows.now +ℤ edge_flows k.step.case.list.now inside k.step.rows.now) (most_supplies + most_edges)
  inflow =
      let c = k.step.case.yes in
      read p (record { bound = supplies_small k.kept.node_rows (counted c).nodes inside }) tt
      +ʳ read q (record { bound = edges_small k.kept.flows c inside }) tt

  -- over the time of the step
  brought : {d : ℤ} → d ≡ duration k.step.case.list.now k.step.i
      → Held (to_z w64 (of_z w64 d) *ℤ to_z w64 (of_z w64 (to_z w64 (of_z w64 x) +ℤ to_z w64 (of_z w64 y))))
      (brought_in k.step.case.list.now inside k.step.rows.now k.step.i) most_brought
  unfolding brought_in
  brought r = read r (duration_sized k.step.case.yes k.step.i k.step.step) tt *ʳ held inflow tt

pub overflow_add-result : goal.overflow_add-result
overflow_add-result c = held_fits (inflow c.args.self.now _ c.supplies.ensures c.edge_flows.ensures) tt

pub overflow_mul-result : goal.overflow_mul-result
overflow_mul-result c = held_fits (brought c.args.self.now _ c.supplies.ensures c.edge_flows.ensures c.duration.ensures) tt

pub returns : goal.returns
returns c = (held (brought c.args.self.now _ c.supplies.ensures c.edge_flows.ensures c.duration.ensures) tt).val
