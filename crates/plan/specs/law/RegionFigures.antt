-- The six figures of a region from time s to time t, "summed over steps s+1..t": these have the indices s .. t - 1.
-- Assumes nothing.
use Rattle.std.specs.Prelude.{Bool, List, ℕ, ◌+◌, ◌-◌, ℤ}
use Rattle.numbers.specs.law.Sums.{sum, sum_n, count}
use Rattle.case.specs.law.Layout.{nodes_of}
use Rattle.plan.specs.declared.figures.Figures.{Figures}
use Rattle.plan.specs.law.PlanLayout.{step_rows}
use Rattle.plan.specs.law.BeforeStep.{pressure_at}
use Rattle.plan.specs.law.Region.{inner_pipes, region_gas, brought_in}
use Rattle.plan.specs.law.RegionResidual.{region_residual}

-- the gas in the inner pipes at time t
unfoldable pub gas_inside : List ℤ → List ℤ → (ℕ → Bool) → ℕ → ℤ
gas_inside case plan inside t = region_gas case inside (pressure_at case plan t)

-- what the step with index s + j brings in, and its residual
unfoldable pub brought_at : List ℤ → List ℤ → (ℕ → Bool) → ℕ → ℕ → ℤ
brought_at case plan inside s j = brought_in case inside (step_rows case plan (s + j)) (s + j)

unfoldable pub residual_at : List ℤ → List ℤ → (ℕ → Bool) → ℕ → ℕ → ℕ
residual_at case plan inside s j = region_residual case inside (pressure_at case plan (s + j)) (step_rows case plan (s + j)) (s + j)

unfoldable pub brought_over : List ℤ → List ℤ → (ℕ → Bool) → ℕ → ℕ → ℤ
brought_over case plan inside s t = sum (t - s) (brought_at case plan inside s)

unfoldable pub residual_over : List ℤ → List ℤ → (ℕ → Bool) → ℕ → ℕ → ℕ
residual_over case plan inside s t = sum_n (t - s) (residual_at case plan inside s)

unfoldable pub figures_of : List ℤ → List ℤ → (ℕ → Bool) → ℕ → ℕ → Figures
figures_of case plan inside s t = record {
  nodes = count (nodes_of case) inside;
  pipes = inner_pipes case inside;
  opening = gas_inside case plan inside s;
  closing = gas_inside case plan inside t;
  brought = brought_over case plan inside s t;
  residual = residual_over case plan inside s t;
}
