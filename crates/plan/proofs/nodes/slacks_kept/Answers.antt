-- The limits of the slacks are small, so they are read as they are; the four tests one after the other are those of the rule.
use Rattle.plan.proofs.Common.{arith, to_z-of_z, held, param, ◌-ʳ◌}
use Rattle.plan.specs.law.NodeRules.{slacks_kept}
use Rattle.plan.proofs.nodes.slacks_kept.Goals as goal
use Rattle.plan.proofs.nodes.slacks_kept.Goals.{then-within, else-within, then-within-2, else-within-2}

pub returns-then-within-3 : goal.returns-then-within-3
unfolding slacks_kept
returns-then-within-3 c =
    let p = c.requires in
    let low = (held (param p.actlow tt -ʳ param p.low tt) tt).val in
    let high = (held (param p.high tt -ʳ param p.acthigh tt) tt).val in
    elim c.if-within-2.branch [
      | then-within-2 v ↦ elim c.if-within.branch [ then-within w ↦ grind (arith, to_z-of_z) | else-within w ↦ grind (arith, to_z-of_z) ]
      | else-within-2 v ↦ elim c.if-within.branch [ then-within w ↦ grind (arith, to_z-of_z) | else-within w ↦ grind (arith, to_z-of_z) ]
    ]

pub returns-else-within-3 : goal.returns-else-within-3
unfolding slacks_kept
returns-else-within-3 c =
    let p = c.requires in
    let low = (held (param p.actlow tt -ʳ param p.low tt) tt).val in
    let high = (held (param p.high tt -ʳ param p.acthigh tt) tt).val in
    elim c.if-within-2.branch [
      | then-within-2 v ↦ elim c.if-within.branch [ then-within w ↦ grind (arith, to_z-of_z) | else-within w ↦ grind (arith, to_z-of_z) ]
      | else-within-2 v ↦ elim c.if-within.branch [ then-within w ↦ grind (arith, to_z-of_z) | else-within w ↦ grind (arith, to_z-of_z) ]
    ]
