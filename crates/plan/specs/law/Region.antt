-- A region is the nodes that a test `inside` names. Its inner pipes have both ends in it; its edge is the arcs with one end in it.
-- Assumes nothing.
use Rattle.std.specs.Prelude.{Bool, true, false, ◌&&◌, List, ℕ, ℤ, pos, neg_ℤ, ◌+ℤ◌, ◌*ℤ◌}
use Rattle.numbers.specs.law.Sums.{sum, only, count}
use Rattle.case.specs.law.Layout.{nodes_of, arcs_of}
use Rattle.case.specs.law.Records.{arc_of, pipe_of}
use Rattle.plan.specs.law.PlanRecords.{node_row}
use Rattle.plan.specs.law.Pipes.{duration, is_pipe}
use Rattle.plan.specs.law.Balance.{flow_at_from, flow_at_to}

-- does arc e begin in the region, and does it end there?
abbrev pub begins_in : List ℤ → (ℕ → Bool) → ℕ → Bool
begins_in case inside e = inside (arc_of case e).from

abbrev pub ends_in : List ℤ → (ℕ → Bool) → ℕ → Bool
ends_in case inside e = inside (arc_of case e).to

-- "inner pipes (both ends in the set)"
abbrev pub inner_pipe : List ℤ → (ℕ → Bool) → ℕ → Bool
inner_pipe case inside e = is_pipe case e && (begins_in case inside e && ends_in case inside e)

unfoldable pub inner_pipes : List ℤ → (ℕ → Bool) → ℕ
inner_pipes case inside = count (arcs_of case) (inner_pipe case inside)

-- ---- "these pipes' gas", where p v is the pressure of node v: "A pipe's gas is c × (from + to)."

unfoldable pub inner_gas : List ℤ → (ℕ → Bool) → (ℕ → ℤ) → ℕ → ℤ
inner_gas case inside p e = only (inner_pipe case inside e) ((pipe_of case e).c *ℤ (p (arc_of case e).from +ℤ p (arc_of case e).to))

unfoldable pub region_gas : List ℤ → (ℕ → Bool) → (ℕ → ℤ) → ℤ
region_gas case inside p = sum (arcs_of case) (inner_gas case inside p)

-- ---- "Gas brought in sums [..] dt × (d at the set's nodes plus flow at the set's end of each arc with one end in the set, inward positive)."

unfoldable pub region_supply : (ℕ → Bool) → List ℤ → ℕ → ℤ
region_supply inside rows v = only (inside v) (node_row rows v).d

-- what flows in through an arc, by whether it begins and ends in the region and by its flow at from and at to
abbrev pub inward : Bool → Bool → ℤ → ℤ → ℤ
inward true true x y = pos 0
inward true false x y = neg_ℤ x
inward false true x y = y
inward false false x y = pos 0

unfoldable pub edge_flow : List ℤ → (ℕ → Bool) → List ℤ → ℕ → ℤ
edge_flow case inside rows e = inward (begins_in case inside e) (ends_in case inside e) (flow_at_from case rows e) (flow_at_to case rows e)

unfoldable pub supplies_in : List ℤ → (ℕ → Bool) → List ℤ → ℤ
supplies_in case inside rows = sum (nodes_of case) (region_supply inside rows)

unfoldable pub edge_flows : List ℤ → (ℕ → Bool) → List ℤ → ℤ
edge_flows case inside rows = sum (arcs_of case) (edge_flow case inside rows)

-- in the step with index i, whose part of the plan is `rows`
unfoldable pub brought_in : List ℤ → (ℕ → Bool) → List ℤ → ℕ → ℤ
brought_in case inside rows i = duration case i *ℤ (supplies_in case inside rows +ℤ edge_flows case inside rows)
