-- The least flow of a pipe is small, so it is read as it is.
use Rattle.plan.proofs.Common.{arith, pos, to_z-of_z, held, param, literal, ◌-ʳ◌}
use Rattle.plan.specs.law.ArcFlows.{flows_kept}
use Rattle.plan.proofs.flows.flows_kept.Goals as goal

pub returns-in-2 : goal.returns-in-2
unfolding flows_kept
returns-in-2 c = let least = (held (literal (pos 0) -ʳ param c.requires tt) tt).val in grind (arith, to_z-of_z)
