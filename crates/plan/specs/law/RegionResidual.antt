-- "the residual: the left sides of 33 at these nodes and of 28 at these pipes, summed", each a magnitude: nothing is netted by sign.
-- Assumes nothing.
use Rattle.std.specs.Prelude.{Bool, List, ℕ, ◌+◌, ℤ}
use Rattle.numbers.specs.law.Sums.{sum_n, only_n}
use Rattle.case.specs.law.Layout.{nodes_of, arcs_of}
use Rattle.plan.specs.law.Pipes.{pipe_residual}
use Rattle.plan.specs.law.Balance.{node_residual}
use Rattle.plan.specs.law.Region.{inner_pipe}

-- 33 at node v, if the region has it
unfoldable pub own_node : List ℤ → (ℕ → Bool) → List ℤ → ℕ → ℕ → ℕ
own_node case inside rows i v = only_n (inside v) (node_residual case rows i v)

-- 28 at arc e, if it is an inner pipe
unfoldable pub own_pipe : List ℤ → (ℕ → Bool) → (ℕ → ℤ) → List ℤ → ℕ → ℕ → ℕ
own_pipe case inside old rows i e = only_n (inner_pipe case inside e) (pipe_residual case old rows i e)

unfoldable pub own_nodes : List ℤ → (ℕ → Bool) → List ℤ → ℕ → ℕ
own_nodes case inside rows i = sum_n (nodes_of case) (own_node case inside rows i)

unfoldable pub own_pipes : List ℤ → (ℕ → Bool) → (ℕ → ℤ) → List ℤ → ℕ → ℕ
own_pipes case inside old rows i = sum_n (arcs_of case) (own_pipe case inside old rows i)

-- of the step with index i, whose part of the plan is `rows`; `old v` is the pressure of node v before it
unfoldable pub region_residual : List ℤ → (ℕ → Bool) → (ℕ → ℤ) → List ℤ → ℕ → ℕ
region_residual case inside old rows i = own_nodes case inside rows i + own_pipes case inside old rows i
