-- An accepted case has its counts in range; what was counted and read are the row's machines, so the two tests are those of the rule.
use Rattle.plan.proofs.Common.{ap, arith, to_z-of_z}
use Rattle.case.specs.declared.records.Artificial.{Artificial}
use Rattle.plan.specs.declared.rows.ArcRow.{ArcRow}
use Rattle.plan.specs.law.ArcMachines.{machines_carry}
use Rattle.plan.proofs.step.Step.machines_carry.Goals as goal

pub returns-then-count-artificial : goal.returns-then-count-artificial
unfolding machines_carry
returns-then-count-artificial c =
    let machines = ap (λ (x : ArcRow). x.machines) c.arc_row.ensures in
    let most = ap (λ (x : Artificial). x.most) c.artificial.ensures in
    let offset = c.requires.1 in
    grind (arith, to_z-of_z)
