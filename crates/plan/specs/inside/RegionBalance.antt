-- The balance of a region in one step: the gas in its inner pipes changes by what is brought in, up to the imbalances of its nodes and of these pipes.
-- The identity is exact and signed; magnitudes come after it.
use Rattle.std.specs.Prelude.{◌≡◌, Bool, cond, ◌&&◌, List, ℕ, ◌≤◌, ◌<◌, ℤ, pos, neg_ℤ, ◌+ℤ◌, ◌*ℤ◌}
use Rattle.std.proofs.Math.Path.{refl, sym, ap, ap₂}
use Rattle.std.proofs.Common.{◌∙◌, arith, le_of_eq}
use Rattle.std.proofs.Math.Bool.{true, false}
use Rattle.std.proofs.Math.Nat.{le_trans}
use Rattle.std.proofs.Math.IntN.{nat_abs, ◌-ℤ◌, *ℤ-zero}
use Rattle.numbers.specs.inside.SignedLinear.{v, ◌⊞◌, ◌⊟◌, ◌⊠◌, ng, eq! }
use Rattle.numbers.specs.inside.SignedBounds.{abs_add, abs_neg, abs_mul}
use Rattle.numbers.specs.law.Sums.{sum, only, only_n}
use Rattle.numbers.specs.inside.SumLaws.{sum_cong, sum_sub, sum_mul, incidence, abs_only, abs_sum, sum_n_cong}
use Rattle.case.specs.law.Layout.{nodes_of, arcs_of}
use Rattle.case.specs.law.Records.{arc_of, pipe_of}
use Rattle.plan.specs.law.PlanRecords.{node_row, arc_row, pressure_in}
use Rattle.plan.specs.law.Pipes.{duration, is_pipe, pipe_imbalance, pipe_residual}
use Rattle.plan.specs.law.Balance.{flow_at_from, flow_at_to, out_part, in_part, outflow, inflow, net_flow, node_imbalance, node_residual}
use Rattle.plan.specs.law.Region.{begins_in, ends_in, inner_pipe, inner_gas, region_gas, region_supply, inward, edge_flow, supplies_in, edge_flows, brought_in}
use Rattle.plan.specs.law.RegionResidual.{own_node, own_pipe, own_nodes, own_pipes, region_residual}

-- every arc's ends are nodes
pub record EndsAreNodes (case : List ℤ) : Type 0 where
  pub from_node : (e : ℕ) → e < arcs_of case → (arc_of case e).from < nodes_of case
  pub to_node : (e : ℕ) → e < arcs_of case → (arc_of case e).to < nodes_of case

only_sub : (c : Bool) (x y : ℤ) → only c (x -ℤ y) ≡ only c x -ℤ only c y
only_sub true x y = refl
only_sub false x y = refl

only_mul : (c : Bool) (k x : ℤ) → only c (k *ℤ x) ≡ k *ℤ only c x
only_mul true k x = refl
only_mul false k x = sym (*ℤ-zero k)

mul_sub : (k x y : ℤ) → k *ℤ (x -ℤ y) ≡ k *ℤ x -ℤ k *ℤ y
mul_sub k x y = eq! (v k ⊠ (v x ⊟ v y)) (v k ⊠ v x ⊟ v k ⊠ v y) (omega arith)

regrouped : (x y k d f s : ℤ) → x -ℤ y -ℤ k *ℤ (d +ℤ f) ≡ k *ℤ (s -ℤ f -ℤ d) -ℤ (k *ℤ s -ℤ (x -ℤ y))
regrouped x y k d f s =
    let e = eq! (v s ⊟ v f ⊟ v d) (v s ⊟ (v d ⊞ v f)) (omega arith) in
    let p = k *ℤ s in
    let q = k *ℤ (d +ℤ f) in
    eq! (v x ⊟ v y ⊟ v q) (v p ⊟ v q ⊟ (v p ⊟ (v x ⊟ v y))) (omega arith)
    ∙ ap (λ z. z -ℤ (p -ℤ (x -ℤ y))) (sym (ap (λ z. k *ℤ z) e ∙ mul_sub k s (d +ℤ f)))

-- what a pipe has more at from than at to, if it is an inner pipe
unfoldable inner_loss : List ℤ → (ℕ → Bool) → List ℤ → ℕ → ℤ
inner_loss case inside rows e = only (inner_pipe case inside e) ((arc_row case rows e).a -ℤ (arc_row case rows e).b)

-- the flow of arc e out of the region's nodes, less its flow into them
unfoldable arc_net : List ℤ → (ℕ → Bool) → List ℤ → ℕ → ℤ
arc_net case inside rows e = only (begins_in case inside e) (flow_at_from case rows e) -ℤ only (ends_in case inside e) (flow_at_to case rows e)

unfoldable node_net : List ℤ → (ℕ → Bool) → List ℤ → ℕ → ℤ
node_net case inside rows u = only (inside u) (net_flow case rows u)

-- the signed left sides of 33 and of 28
unfoldable node_sum : List ℤ → (ℕ → Bool) → List ℤ → ℕ → ℤ
node_sum case inside rows i = sum (nodes_of case) (λ u. only (inside u) (duration case i *ℤ node_imbalance case rows u))

unfoldable pipe_sum : List ℤ → (ℕ → Bool) → (ℕ → ℤ) → List ℤ → ℕ → ℤ
pipe_sum case inside old rows i = sum (arcs_of case) (λ e. only (inner_pipe case inside e) (pipe_imbalance case old rows i e))

module _ (case : List ℤ) (inside : ℕ → Bool) (rows : List ℤ) where
  -- an arc that is no pipe and has both ends inside cancels; a pipe leaves a - b; an arc of the edge leaves what it brings
  arc : (e : ℕ) → arc_net case inside rows e ≡ inner_loss case inside rows e -ℤ edge_flow case inside rows e
  unfolding arc_net inner_loss flow_at_from flow_at_to edge_flow
  arc e = go (is_pipe case e) (begins_in case inside e) (ends_in case inside e) (arc_row case rows e).a (arc_row case rows e).b
    where
      go : (k f g : Bool) (x y : ℤ) → only f (cond k x (x -ℤ y)) -ℤ only g (cond k y (x -ℤ y))
          ≡ only (k && (f && g)) (x -ℤ y) -ℤ inward f g (cond k x (x -ℤ y)) (cond k y (x -ℤ y))
      go true true true x y = eq! (v x ⊟ v y) (v x ⊟ v y ⊟ v (pos 0)) (omega arith)
      go true true false x y = eq! (v x ⊟ v (pos 0)) (v (pos 0) ⊟ ng (v x)) (omega arith)
      go true false true x y = refl
      go true false false x y = refl
      go false true true x y = eq! ((v x ⊟ v y) ⊟ (v x ⊟ v y)) (v (pos 0) ⊟ v (pos 0)) (omega arith)
      go false true false x y = eq! ((v x ⊟ v y) ⊟ v (pos 0)) (v (pos 0) ⊟ ng (v x ⊟ v y)) (omega arith)
      go false false true x y = refl
      go false false false x y = refl

  -- the nodes' net flow over the region, by arcs
  netflow : EndsAreNodes case → sum (nodes_of case) (node_net case inside rows) ≡ sum (arcs_of case) (arc_net case inside rows)
  unfolding node_net arc_net net_flow outflow inflow out_part in_part
  netflow ends =
      sum_cong (nodes_of case) _ _ (λ u l. only_sub (inside u) (outflow case rows u) (inflow case rows u))
      ∙ sum_sub (nodes_of case) _ _
      ∙ ap₂ ◌-ℤ◌ (incidence (nodes_of case) (arcs_of case) (λ e. (arc_of case e).from) inside (flow_at_from case rows) ends.from_node)
      (incidence (nodes_of case) (arcs_of case) (λ e. (arc_of case e).to) inside (flow_at_to case rows) ends.to_node)
      ∙ sym (sum_sub (arcs_of case) _ _)

  -- it is that of the inner pipes less what the edge brings
  flows : EndsAreNodes case
      → sum (nodes_of case) (node_net case inside rows) ≡ sum (arcs_of case) (inner_loss case inside rows) -ℤ edge_flows case inside rows
  unfolding edge_flows
  flows ends =
      netflow ends
      ∙ sum_cong (arcs_of case) _ _ (λ e l. arc e)
      ∙ sum_sub (arcs_of case) (inner_loss case inside rows) (edge_flow case inside rows)

  nodes_are : (i : ℕ)
      → node_sum case inside rows i ≡ duration case i *ℤ (sum (nodes_of case) (node_net case inside rows) -ℤ supplies_in case inside rows)
  unfolding node_sum node_net node_imbalance supplies_in region_supply
  nodes_are i =
      sum_cong (nodes_of case) _ _ (λ u l. only_mul (inside u) (duration case i) _)
      ∙ sum_mul (nodes_of case) (duration case i) _
      ∙ ap (λ z. duration case i *ℤ z)
      (sum_cong (nodes_of case) _ _ (λ u l. only_sub (inside u) (net_flow case rows u) (node_row rows u).d) ∙ sum_sub (nodes_of case) _ _)

  module _ (old : ℕ → ℤ) (i : ℕ) where
    pipes_are : pipe_sum case inside old rows i
        ≡ duration case i *ℤ sum (arcs_of case) (inner_loss case inside rows) -ℤ (region_gas case inside (pressure_in rows) -ℤ region_gas case inside old)
    unfolding pipe_sum inner_loss pipe_imbalance region_gas inner_gas
    pipes_are =
        sum_cong (arcs_of case) _ _ (λ e l.
        one (inner_pipe case inside e) (duration case i) ((arc_row case rows e).a -ℤ (arc_row case rows e).b) (pipe_of case e).c
        (pressure_in rows (arc_of case e).from) (old (arc_of case e).from) (pressure_in rows (arc_of case e).to) (old (arc_of case e).to))
        ∙ sum_sub (arcs_of case) _ _
        ∙ ap₂ ◌-ℤ◌ (sum_mul (arcs_of case) (duration case i) _) (sum_sub (arcs_of case) _ _)
      where
        one : (w : Bool) (k x c f₁ f₀ g₁ g₀ : ℤ)
            → only w (k *ℤ x -ℤ c *ℤ ((f₁ -ℤ f₀) +ℤ (g₁ -ℤ g₀))) ≡ k *ℤ only w x -ℤ (only w (c *ℤ (f₁ +ℤ g₁)) -ℤ only w (c *ℤ (f₀ +ℤ g₀)))
        one true k x c f₁ f₀ g₁ g₀ =
            let e = eq! ((v f₁ ⊟ v f₀) ⊞ (v g₁ ⊟ v g₀)) ((v f₁ ⊞ v g₁) ⊟ (v f₀ ⊞ v g₀)) (omega arith) in
            ap (λ z. k *ℤ x -ℤ z) (ap (λ z. c *ℤ z) e ∙ mul_sub c (f₁ +ℤ g₁) (f₀ +ℤ g₀))
        one false k x c f₁ f₀ g₁ g₀ = rw (*ℤ-zero k)

    -- the change of the gas less what is brought in is the sum of the imbalances
    identity : EndsAreNodes case → region_gas case inside (pressure_in rows) -ℤ region_gas case inside old -ℤ brought_in case inside rows i
        ≡ node_sum case inside rows i -ℤ pipe_sum case inside old rows i
    unfolding brought_in
    identity ends =
        let x₁ = region_gas case inside (pressure_in rows) in
        let x₀ = region_gas case inside old in
        let k = duration case i in
        let d = supplies_in case inside rows in
        let f = edge_flows case inside rows in
        let s = sum (arcs_of case) (inner_loss case inside rows) in
        regrouped x₁ x₀ k d f s ∙ sym (ap₂ ◌-ℤ◌ (nodes_are i ∙ ap (λ z. k *ℤ (z -ℤ d)) (flows ends)) pipes_are)

    node_bound : nat_abs (node_sum case inside rows i) ≤ own_nodes case inside rows i
    unfolding node_sum own_nodes own_node node_residual
    node_bound =
        le_trans (abs_sum (nodes_of case) _)
        (le_of_eq (sum_n_cong (nodes_of case) _ _ (λ u l.
        abs_only (inside u) _ ∙ ap (only_n (inside u)) (abs_mul (duration case i) (node_imbalance case rows u)))))

    pipe_bound : nat_abs (pipe_sum case inside old rows i) ≤ own_pipes case inside old rows i
    unfolding pipe_sum own_pipes own_pipe pipe_residual
    pipe_bound = le_trans (abs_sum (arcs_of case) _) (le_of_eq (sum_n_cong (arcs_of case) _ _ (λ e l. abs_only (inner_pipe case inside e) _)))

    pub step_balance : EndsAreNodes case
        → nat_abs (region_gas case inside (pressure_in rows) -ℤ region_gas case inside old -ℤ brought_in case inside rows i)
        ≤ region_residual case inside old rows i
    unfolding region_residual
    step_balance ends =
        let a = node_sum case inside rows i in
        let b = pipe_sum case inside old rows i in
        le_trans (le_of_eq (ap nat_abs (identity ends))) (omega (arith, abs_add a (neg_ℤ b), abs_neg b, node_bound, pipe_bound))
