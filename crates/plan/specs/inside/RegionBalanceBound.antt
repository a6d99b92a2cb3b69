-- The residual of a region: at most E for each of its nodes and inner pipes and each step, where no left side of 28 or 33 exceeds E.
use Rattle.std.specs.Prelude.{◌≡◌, refl, Bool, true, false, ◌&&◌, List, ℕ, ◌+◌, ◌*◌, ◌-◌, ◌≤◌, ◌<◌, T, ℤ}
use Rattle.std.proofs.Common.{◌∙◌, le_of_eq}
use native.Mathlib.Omega.{arith}
use Rattle.std.proofs.Math.Nat.{le_trans}
use Rattle.numbers.specs.law.Sums.{count}
use Rattle.numbers.specs.inside.SumLaws.{sum_n_le, sum_n_const, sum_n_count}
use Rattle.case.specs.law.Layout.{nodes_of, arcs_of}
use Rattle.plan.specs.law.PlanLayout.{step_rows}
use Rattle.plan.specs.law.BeforeStep.{pressure_at}
use Rattle.plan.specs.law.Pipes.{is_pipe, pipe_residual}
use Rattle.plan.specs.law.Balance.{node_residual}
use Rattle.plan.specs.law.Region.{begins_in, ends_in, inner_pipe, inner_pipes}
use Rattle.plan.specs.law.RegionResidual.{own_node, own_pipe, own_nodes, own_pipes, region_residual}
use Rattle.plan.specs.law.RegionFigures.{residual_at, residual_over}

first_of : (a b : Bool) → T (a && b) → a ≡ true
first_of true b h = refl
first_of false b h = absurd h

module _ (case plan : List ℤ) (inside : ℕ → Bool) (m s t : ℕ)
    (nodes : (u i : ℕ) → u < nodes_of case → s ≤ i → i < t → node_residual case (step_rows case plan i) i u ≤ m)
    (pipes : (e i : ℕ) → e < arcs_of case → is_pipe case e ≡ true → s ≤ i → i < t
    → pipe_residual case (pressure_at case plan i) (step_rows case plan i) i e ≤ m) where
  step_bound : (j : ℕ) → j < t - s → residual_at case plan inside s j ≤ (count (nodes_of case) inside + inner_pipes case inside) * m
  unfolding residual_at region_residual own_nodes own_pipes own_node own_pipe inner_pipes
  step_bound j l =
      let i = s + j in
      omega (
        arith,
        sum_n_count (nodes_of case) m inside (λ u. node_residual case (step_rows case plan i) i u) (λ u b w. nodes u i b (omega arith) (omega arith)),
        sum_n_count (arcs_of case) m (inner_pipe case inside) (λ e. pipe_residual case (pressure_at case plan i) (step_rows case plan i) i e)
            (λ e b w. pipes e i b (first_of (is_pipe case e) (begins_in case inside e && ends_in case inside e) w) (omega arith) (omega arith)),
      )

  pub residual_bound : residual_over case plan inside s t ≤ (count (nodes_of case) inside + inner_pipes case inside) * (t - s) * m
  unfolding residual_over
  residual_bound =
      le_trans (sum_n_le (t - s) (residual_at case plan inside s) (λ j. (count (nodes_of case) inside + inner_pipes case inside) * m) step_bound)
      (le_of_eq (sum_n_const (t - s) _ ∙ regroup (count (nodes_of case) inside + inner_pipes case inside) (t - s)))
    where
      regroup : (c k : ℕ) → k * (c * m) ≡ c * k * m
      regroup c k = omega arith
