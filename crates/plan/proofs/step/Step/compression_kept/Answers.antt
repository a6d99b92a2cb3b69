-- The three tests one after the other are those of the rule.
use Rattle.plan.proofs.Common.{arith, to_z-of_z}
use Rattle.plan.specs.law.ArcPressures.{compression_kept}
use Rattle.plan.proofs.step.Step.compression_kept.Goals as goal
use Rattle.plan.proofs.step.Step.compression_kept.Goals.{then-pressure-p_out, else-pressure-p_out}

pub returns-then-p_out-out_bound : goal.returns-then-p_out-out_bound
unfolding compression_kept
returns-then-p_out-out_bound c =
    elim c.if-pressure-p_out.branch [
      | then-pressure-p_out w ↦ grind (arith, to_z-of_z)
      | else-pressure-p_out w ↦ grind (arith, to_z-of_z)
    ]

pub returns-else-p_out-out_bound : goal.returns-else-p_out-out_bound
unfolding compression_kept
returns-else-p_out-out_bound c =
    elim c.if-pressure-p_out.branch [
      | then-pressure-p_out w ↦ grind (arith, to_z-of_z)
      | else-pressure-p_out w ↦ grind (arith, to_z-of_z)
    ]
