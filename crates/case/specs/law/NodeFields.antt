-- "Node row: kind (0 inner, 1 source, 2 sink); p0, low, high, actlow, acthigh, each 0..200,000 with low ≤ actlow ≤ acthigh ≤ high (p0 is free of these;
-- a bound between two fields counts for the later one); then k demands D: inner 0, source 0..10,000,000, sink -10,000,000..0."
-- Assumes nothing.
use Rattle.std.specs.Prelude.{cond, List, ◌++◌, ℕ, ◌+◌, eqb, ℤ, pos, negsuc}
use Rattle.numbers.specs.law.Question.{Question}
use Rattle.numbers.specs.law.Items.{over}
use Rattle.case.specs.law.Layout.{number_at, count_at, nodes_of, steps_of, node_at, node_kind_at, p0_at}
use Rattle.case.specs.law.Layout.{bounds_in, demand_in, low_at, high_at, actlow_at, acthigh_at}
use Rattle.case.specs.law.Field.{field, fields, most_pressure, most_flow}

-- kind and p0 of the row that begins at index `offset`
unfoldable pub node_head : List ℤ → ℕ → List Question
node_head case offset = field case (node_kind_at offset) (pos 0) (pos 2) ++ field case (p0_at offset) (pos 0) most_pressure

-- The four bounds that begin at index `offset`; low and high share their range.
-- In list order low ≤ actlow counts for actlow, actlow ≤ acthigh and acthigh ≤ high for acthigh.
unfoldable pub bound_fields : List ℤ → ℕ → List Question
bound_fields case offset =
    fields case (low_at offset) 2 (pos 0) most_pressure
    ++ (field case (actlow_at offset) (number_at case (low_at offset)) most_pressure
    ++ field case (acthigh_at offset) (number_at case (actlow_at offset)) (number_at case (high_at offset)))

-- the range of a demand, by the node's kind: -10,000,000 is `negsuc 9999999`
abbrev pub least_demand : ℕ → ℤ
least_demand kind = cond (eqb kind 2) (negsuc 9999999) (pos 0)

abbrev pub most_demand : ℕ → ℤ
most_demand kind = cond (eqb kind 1) most_flow (pos 0)

-- the demand in the step with index i
unfoldable pub demand_field : List ℤ → ℕ → ℕ → List Question
demand_field case offset i =
    field case (offset + demand_in case i) (least_demand (count_at case (node_kind_at offset))) (most_demand (count_at case (node_kind_at offset)))

-- all fields of the row that begins at index `offset`
unfoldable pub node_row_fields : List ℤ → ℕ → List Question
node_row_fields case offset =
    node_head case offset
    ++ (bound_fields case (offset + bounds_in case 0)
    ++ over (demand_field case offset) 0 (steps_of case))

unfoldable pub node_fields : List ℤ → ℕ → List Question
node_fields case v = node_row_fields case (node_at case v)

unfoldable pub all_node_fields : List ℤ → List Question
all_node_fields case = over (node_fields case) 0 (nodes_of case)
