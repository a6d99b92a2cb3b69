-- The two shifted pressures are small, so they are read as they are.
use Rattle.plan.proofs.Common.{arith, to_z-of_z, held, param, ◌+ʳ◌, ◌-ʳ◌}
use Rattle.plan.specs.law.NodeRules.{active_bounds_kept}
use Rattle.plan.proofs.nodes.active_bounds_kept.Goals as goal

pub returns-then-n-r : goal.returns-then-n-r
unfolding active_bounds_kept
returns-then-n-r c =
    let up = (held (param c.requires.p tt +ʳ param c.requires.uplus tt) tt).val in
    let down = (held (param c.requires.p tt -ʳ param c.requires.uminus tt) tt).val in
    grind (arith, to_z-of_z)

pub returns-else-n-r : goal.returns-else-n-r
unfolding active_bounds_kept
returns-else-n-r c =
    let up = (held (param c.requires.p tt +ʳ param c.requires.uplus tt) tt).val in
    grind (arith, to_z-of_z)
