-- The three tests one after the other are those of the rule.
use Rattle.plan.proofs.Common.{arith, to_z-of_z}
use Rattle.plan.specs.law.NodeRules.{node_numbers_kept}
use Rattle.plan.proofs.nodes.numbers_kept.Goals as goal
use Rattle.plan.proofs.nodes.numbers_kept.Goals.{then-within, else-within}

pub returns-then-flow_kept : goal.returns-then-flow_kept
unfolding node_numbers_kept
returns-then-flow_kept c = elim c.if-within.branch [ then-within w ↦ grind (arith, to_z-of_z) | else-within w ↦ grind (arith, to_z-of_z) ]

pub returns-else-flow_kept : goal.returns-else-flow_kept
unfolding node_numbers_kept
returns-else-flow_kept c = elim c.if-within.branch [ then-within w ↦ grind (arith, to_z-of_z) | else-within w ↦ grind (arith, to_z-of_z) ]
