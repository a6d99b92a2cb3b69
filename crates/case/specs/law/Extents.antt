-- How many nodes and arcs a case may have, how many the judge has room for, and how far the rows of a case may reach.
-- Assumes nothing.
use Rattle.std.specs.Prelude.{List, ℕ, ℤ}
use Rattle.case.specs.law.Layout.{edition_of}

-- ---- limits of the head's counts, by the case's edition

-- "edition 1"
abbrev pub last_edition : ℕ
last_edition = 1

-- "N nodes 1..60; A arcs 0..120"
abbrev pub node_limit : ℕ → ℕ
node_limit edition = 60

abbrev pub arc_limit : ℕ → ℕ
arc_limit edition = 120

unfoldable pub most_nodes : List ℤ → ℕ
most_nodes case = node_limit (edition_of case)

unfoldable pub most_arcs : List ℤ → ℕ
most_arcs case = arc_limit (edition_of case)

-- ---- capacities: no edition's limit is above them

-- places in an array with one for each node, and for each arc
abbrev pub node_capacity : ℕ
node_capacity = 60

abbrev pub arc_capacity : ℕ
arc_capacity = 120

-- items that a set has room for, since it is one number
abbrev pub set_room : ℕ
set_room = 60

-- ---- extents: with room for 240 nodes, 480 arcs, bounds in each step, sets of four numbers and 24 sides to a machine

-- numbers in a node's row, a direction's and a machine's
abbrev pub node_extent : ℕ
node_extent = 242

abbrev pub direction_extent : ℕ
direction_extent = 9

abbrev pub machine_extent : ℕ
machine_extent = 99

-- numbers of a station: 5 + 8 × 9 + 16 × 4 + 12 × 99
abbrev pub station_extent : ℕ
station_extent = 1329

-- where the arcs' rows begin at the latest: 7 + 48 + 240 × 242; where the stations' do: 480 × 11 further; where a case ends: 8 stations further
abbrev pub arcs_extent : ℕ
arcs_extent = 58135

abbrev pub stations_extent : ℕ
stations_extent = 63415

abbrev pub case_extent : ℕ
case_extent = 74047
