-- What a region's sums have room for, and what one step more adds to them.
use Rattle.std.specs.Prelude.{◌≡◌, Bool, List, ℕ, ◌+◌, ◌≤◌, ℤ, pos, ◌+ℤ◌}
use Rattle.numbers.specs.inside.SignedBounds.{Bounded}
use Rattle.case.specs.law.Layout.{number_at, nodes_of}
use Rattle.case.specs.law.LayoutOf.{Holds}
use Rattle.plan.specs.declared.region.Gathered.{Gathered}
use Rattle.plan.specs.law.PlanRecords.{pressure_in}
use Rattle.plan.specs.law.Region.{brought_in}
use Rattle.plan.specs.law.RegionResidual.{region_residual}

-- sums that have room for one step more
pub record RegionRoom (g : Gathered) : Type 0 where
  pub brought : Bounded g.brought 1000000000000000000
  pub residual : g.residual ≤ 1000000000000000000

-- `h` is `g` with the step added whose part of the plan is `rows`
pub record RegionAdded (case : List ℤ) (inside : ℕ → Bool) (rows : List ℤ) (i : ℕ) (g h : Gathered) : Type 0 where
  pub pressures : Holds (pos 0) h.pressures (pressure_in rows) (nodes_of case)
  pub brought : h.brought ≡ g.brought +ℤ brought_in case inside rows i
  pub residual : h.residual ≡ g.residual + region_residual case inside (number_at g.pressures) rows i
