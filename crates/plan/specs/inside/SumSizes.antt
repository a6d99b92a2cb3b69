-- How large sums over the nodes and arcs of one step get, from the most that one of them adds and the most that there are.
-- Assumes nothing.
use Rattle.std.specs.Prelude.{ℕ, ◌+◌, ◌*◌, ◌^◌}
use Rattle.case.specs.law.Extents.{node_capacity, arc_capacity}

-- numbers of a step
abbrev pub most_step_width : ℕ
most_step_width = node_capacity * 6 + arc_capacity * 4 + 8 * 2

-- numbers of a plan
abbrev pub most_plan : ℕ
most_plan = 2 + 48 * most_step_width

-- u+ and u-; s+ and s-
abbrev pub most_pressure_slack : ℕ
most_pressure_slack = node_capacity * 800000

abbrev pub most_demand_slack : ℕ
most_demand_slack = node_capacity * 20000000

-- weights of newly chosen directions and states, and of arcs whose activity changed
abbrev pub most_switching : ℕ
most_switching = 8 * 2000000 + arc_capacity * 1000000

-- left sides of 33 and 28 that have been let pass
abbrev pub most_residual : ℕ
most_residual = (node_capacity + arc_capacity) * 1000000

-- a node's net flow, and its left side of 33 before that is asked
abbrev pub most_net : ℕ
most_net = arc_capacity * 40000000

abbrev pub most_node_residual : ℕ
most_node_residual = 86400 * (most_net + 10000000)

-- d at the nodes of a region, flow through its edge, gas brought in
abbrev pub most_supplies : ℕ
most_supplies = node_capacity * 10000000

abbrev pub most_edges : ℕ
most_edges = arc_capacity * 20000000

abbrev pub most_brought : ℕ
most_brought = 86400 * (most_supplies + most_edges)

-- a part of any of these sums, and of a sum that the code makes
abbrev pub most_part : ℕ
most_part = 2 ^ 50
