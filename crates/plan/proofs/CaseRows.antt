-- Where the rows of an accepted case stand, as facts that a tactic applies by itself: they are inside the case, and no offset is large.
-- Assumes nothing.
use Rattle.plan.proofs.Common.{◌≡◌, ap, ℕ, ◌*◌, ◌<◌, ◌≤◌, arith, ℤ}
use mathlib.Core.List.{List}
use lib.ListN.{get_or}
use Rattle.case.specs.declared.records.Layout.{Layout}
use Rattle.case.specs.law.Layout.{node_width, node_at, stations_of, station_at}
use Rattle.case.specs.declared.records.Site.{Site}
use Rattle.case.specs.law.LayoutOf.{LayoutOf, no_site}
use Rattle.case.specs.law.Extents.{node_capacity, arcs_extent}
use Rattle.case.specs.inside.Counts.{Counted}
use Rattle.case.specs.inside.Places.{node_early, bounds_before}
use Rattle.plan.specs.inside.CaseSizes.{head_there, node_there, arc_there}
use Rattle.plan.specs.inside.RegionLoop.{narrow, part_within}
use Rattle.plan.proofs.CaseFacts.{few}

-- all the rows before a node's
pub rows_early : (case : List ℤ) → Counted case → (v : ℕ) → v ≤ node_capacity → v * node_width case ≤ arcs_extent
unfolding node_at
rows_early case c v h = omega (arith, node_early case c v h)

-- where a station's rows begin, as the layout has it
pub station_laid : {case : List ℤ} {l : Layout} → LayoutOf case l → (s : ℕ) → s < stations_of case → (get_or l.sites s no_site).offset ≡ station_at case s
station_laid h s p = ap (λ (x : Site). x.offset) (h.sites.each s p)

-- rules: of where rows begin, and of what stands in a node's row and in an arc's
pub ruleset begins = (few, head_there, node_early, rows_early)

pub ruleset node_inside = (few, node_there, bounds_before)

pub ruleset arc_inside = (few, arc_there)

pub ruleset laid = (few, station_laid)

-- rules: where a step's part of the plan's list stands
pub ruleset parts = (few, narrow, part_within)
