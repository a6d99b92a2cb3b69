-- Where the arcs' rows and the stations' rows begin, and arrays that are filled station by station.
-- Assumes nothing.
use Rattle.std.specs.Prelude.{◌≡◌, List, ℤ, ◌+◌, ◌*◌, ◌≤◌}
use Rattle.std.proofs.Common.{arith, length-take-le}
use Rattle.case.specs.law.Extents.{arcs_extent}
use Rattle.case.specs.law.Layout.{nodes_of, arcs_of, steps_of, node_width, node_at, arc_at, station_at}
use Rattle.case.specs.inside.Counts.{Counted}
use Rattle.case.specs.inside.CountsInRange.{head_counted}
use Rattle.case.specs.inside.HoldsLaws.{holds_none, holds_more}
use Rattle.case.specs.inside.Places.{arcs_begin, stations_begin, station_next, end_most}
use Rattle.case.proofs.Asked.{questions}

module _ (l : List ℤ) where
  pub arc_first : arc_at l 0 ≡ 7 + steps_of l + nodes_of l * node_width l
  unfolding arc_at node_at
  arc_first = omega arith

  pub station_first : station_at l 0 ≡ arc_at l 0 + arcs_of l * 11
  unfolding station_at arc_at
  station_first = omega arith

  pub nodes_room : Counted l → nodes_of l * node_width l ≤ arcs_extent
  nodes_room c = omega (arith, arcs_begin l c, arc_first)

pub ruleset begin_laws = (questions, arcs_begin, stations_begin, station_first, head_counted)

pub ruleset filled = (questions, holds_none, holds_more, length-take-le, stations_begin, station_next, end_most)
