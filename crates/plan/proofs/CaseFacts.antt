-- What an accepted case gives the functions that read it, as facts that a tactic applies by itself: counts that are small, and numbers in range.
-- Assumes nothing.
use Rattle.plan.proofs.Common.{◌≡◌, true, ℕ, ◌<◌, ◌≤◌, ne_eqb, arith, ℤ, pos, nat_abs, le_z, counted}
use mathlib.Core.List.{List}
use Rattle.case.specs.declared.records.Layout.{Layout}
use Rattle.case.specs.law.LayoutOf.{LayoutOf}
use lib.IntN.{◌*ℤ◌}
use Rattle.numbers.specs.inside.SignedBounds.{Bounded}
use Rattle.case.specs.declared.records.Node.{Node}
use Rattle.case.specs.declared.records.Arc.{Arc}
use Rattle.case.specs.law.Layout.{nodes_of, arcs_of, steps_of, mass_tolerance, pressure_tolerance}
use Rattle.case.specs.law.Records.{node_of, arc_of}
use Rattle.case.specs.inside.Counts.{Counted}
use Rattle.plan.specs.declared.rows.NodeRow.{NodeRow}
use Rattle.plan.specs.law.NodeRules.{node_numbers_kept}
use Rattle.plan.specs.law.Pipes.{pipe_residual, pipe_mass_kept, pressure_balance, pipe_pressures_kept}
use Rattle.plan.specs.inside.Sizes.{NodeSized, NodeRowSized}
use Rattle.plan.specs.inside.CaseSizes.{node_sized, qmax_sized}
use Rattle.plan.specs.inside.AnsweredSizes.{numbers_sized}
use Rattle.plan.specs.inside.Preconditions.{AcceptedCase}
use Rattle.plan.proofs.Asked.{questions}

pub few_steps : (case : List ℤ) → AcceptedCase case → steps_of case ≤ 48
few_steps case a = (counted a).steps

pub few_nodes : (case : List ℤ) → AcceptedCase case → nodes_of case ≤ 60
few_nodes case a = (counted a).nodes

pub few_arcs : (case : List ℤ) → AcceptedCase case → arcs_of case ≤ 120
few_arcs case a = (counted a).arcs

pub head_counted : (case : List ℤ) → AcceptedCase case → Counted case
head_counted case a = counted a

-- as the layout has them
module _ (case : List ℤ) (l : Layout) (a : AcceptedCase case) (d : LayoutOf case l) where
  pub nodes_fit : l.nodes ≤ 60
  nodes_fit = omega (arith, d.nodes, (counted a).nodes)

  pub arcs_fit : l.arcs ≤ 120
  arcs_fit = omega (arith, d.arcs, (counted a).arcs)

  pub stations_fit : l.stations ≤ 8
  stations_fit = omega (arith, d.stations, (counted a).stations)

-- a node that was read, and its row past 21
pub node_read : {case : List ℤ} {v i : ℕ} (n : Node) → n ≡ node_of case v i → AcceptedCase case → v < nodes_of case → i < steps_of case → NodeSized n
node_read {v = v} {i = i} n e a p q = rw e (node_sized a v p i q)

pub row_read : {n : Node} (r : NodeRow) → node_numbers_kept n r ≡ true → NodeSized n → NodeRowSized r
row_read {n} r e z = numbers_sized n r z e

-- an arc that was read
pub qmax_read : {case : List ℤ} {e : ℕ} (c : Arc) → c ≡ arc_of case e → AcceptedCase case → e < arcs_of case → Bounded c.qmax 10000000
qmax_read {e = e} c k a p = rw k (qmax_sized a e p)

-- ---- 28 and 29

module _ (case : List ℤ) (old : ℕ → ℤ) (rows : List ℤ) (i e : ℕ) where
  pub mass_asked : (arc_of case e).kind ≡ 2 → pipe_mass_kept case old rows i e ≡ le_z (pos (pipe_residual case old rows i e)) (mass_tolerance case)
  unfolding pipe_mass_kept
  mass_asked k = rw k

  pub mass_free : ((arc_of case e).kind ≡ 2 → ⊥) → pipe_mass_kept case old rows i e ≡ true
  unfolding pipe_mass_kept
  mass_free k = rw (ne_eqb _ 2 k)

module _ (case rows : List ℤ) (e : ℕ) where
  pub ends_asked : (arc_of case e).kind ≡ 2
      → pipe_pressures_kept case rows e ≡ le_z (pos (nat_abs (pressure_balance case rows e))) (pos 1000000 *ℤ pressure_tolerance case)
  unfolding pipe_pressures_kept
  ends_asked k = rw k

  pub ends_free : ((arc_of case e).kind ≡ 2 → ⊥) → pipe_pressures_kept case rows e ≡ true
  unfolding pipe_pressures_kept
  ends_free k = rw (ne_eqb _ 2 k)

-- ---- rules: of a function that counts in an accepted case, of one that fills an array by its layout, of one that asks with ? besides, and of such a one
-- that reads a node, an arc or a pipe
pub ruleset few = (few_steps, few_nodes, few_arcs, head_counted)

pub ruleset fits = (nodes_fit, arcs_fit, stations_fit)

pub ruleset asked = (questions, few)

pub ruleset node_asked = (asked, node_read, row_read)

pub ruleset arc_asked = (asked, qmax_read)

pub ruleset pipe_asked = (asked, mass_asked, mass_free, ends_asked, ends_free)
