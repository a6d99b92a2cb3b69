-- A region's gas and residual go by the pressures of nodes only: pressures that are the same at every node give the same.
use Rattle.std.specs.Prelude.{◌≡◌, Bool, List, ℕ, ◌+◌, ◌<◌, ℤ, ◌+ℤ◌, ◌*ℤ◌}
use Rattle.std.proofs.Math.Path.{ap}
use Rattle.numbers.specs.law.Sums.{sum, only, only_n}
use Rattle.numbers.specs.inside.SumLaws.{sum_cong, sum_n_cong}
use Rattle.case.specs.law.Layout.{nodes_of, arcs_of}
use Rattle.case.specs.law.Records.{arc_of, pipe_of}
use Rattle.plan.specs.law.Pipes.{is_pipe, pipe_imbalance, pipe_residual}
use Rattle.plan.specs.law.Totals.{pipe_part}
use Rattle.plan.specs.law.Region.{inner_pipe, inner_gas, region_gas}
use Rattle.plan.specs.law.RegionResidual.{own_nodes, own_pipe, own_pipes, region_residual}
use Rattle.plan.specs.inside.RegionBalance.{EndsAreNodes}

module _ (case : List ℤ) (p q : ℕ → ℤ) (ends : EndsAreNodes case) (same : (u : ℕ) → u < nodes_of case → p u ≡ q u) where
  -- the gas of the pipes that w names
  pub pipes_gas : (w : ℕ → Bool) → sum (arcs_of case) (λ e. only (w e) ((pipe_of case e).c *ℤ (p (arc_of case e).from +ℤ p (arc_of case e).to)))
      ≡ sum (arcs_of case) (λ e. only (w e) ((pipe_of case e).c *ℤ (q (arc_of case e).from +ℤ q (arc_of case e).to)))
  pipes_gas w =
      sum_cong (arcs_of case) _ _ (λ e l.
      rw (same (arc_of case e).from (ends.from_node e l), same (arc_of case e).to (ends.to_node e l)))

  pub gas_same : (inside : ℕ → Bool) → region_gas case inside p ≡ region_gas case inside q
  unfolding region_gas inner_gas
  gas_same inside = pipes_gas (inner_pipe case inside)

  module _ (rows : List ℤ) (i : ℕ) where
    pub pipe_same : (e : ℕ) → e < arcs_of case → pipe_residual case p rows i e ≡ pipe_residual case q rows i e
    unfolding pipe_residual pipe_imbalance
    pipe_same e l = rw (same (arc_of case e).from (ends.from_node e l), same (arc_of case e).to (ends.to_node e l))

    pub part_same : (e : ℕ) → e < arcs_of case → pipe_part case p rows i e ≡ pipe_part case q rows i e
    unfolding pipe_part
    part_same e l = ap (only_n (is_pipe case e)) (pipe_same e l)

    pub residual_same : (inside : ℕ → Bool) → region_residual case inside p rows i ≡ region_residual case inside q rows i
    unfolding region_residual own_pipes own_pipe
    residual_same inside =
        ap (λ (n : ℕ). own_nodes case inside rows i + n) (sum_n_cong (arcs_of case) _ _ (λ e l. ap (only_n (inner_pipe case inside e)) (pipe_same e l)))
