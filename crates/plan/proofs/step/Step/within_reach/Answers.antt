-- The test is of the two pressures and the ratio as they were read; each is small enough to multiply.
use Rattle.plan.proofs.Common.{ap, arith, pos, to_z-of_z, held, held_fits, literal, ◌+ʳ◌, ◌*ʳ◌}
use Rattle.plan.specs.declared.rows.ArcRow.{ArcRow}
use Rattle.plan.specs.law.ArcPressures.{reach_kept}
use Rattle.plan.proofs.ArcLaws.{gain_sized}
use Rattle.plan.proofs.SignedReads.{read}
use Rattle.plan.proofs.step.Step.within_reach.Goals as goal

pub overflow_add-ratio : goal.overflow_add-ratio
overflow_add-ratio c = held_fits (literal (pos 1000) +ʳ read c.gain-ratio.ensures (gain_sized _ c.requires.machines) tt) tt

pub overflow_mul-reach : goal.overflow_mul-reach
overflow_mul-reach c =
    let ratio = held (literal (pos 1000) +ʳ read c.gain-ratio.ensures (gain_sized _ c.requires.machines) tt) tt in
    held_fits (read c.pressure-p_in.ensures (c.args.self.now.pressures.each _ c.requires.in_node) tt *ʳ ratio) tt

pub returns : goal.returns
unfolding reach_kept
returns c =
    let gain = read c.gain-ratio.ensures (gain_sized _ c.requires.machines) tt in
    let left = held (literal (pos 1000) *ʳ read c.pressure-p_out.ensures (c.args.self.now.pressures.each _ c.requires.out_node) tt) tt in
    let right = held (read c.pressure-p_in.ensures (c.args.self.now.pressures.each _ c.requires.in_node) tt *ʳ held (literal (pos 1000) +ʳ gain) tt) tt in
    let m = ap (λ (x : ArcRow). x.machines) c.arc_row.ensures in
    let o = c.requires.offset_of in
    grind (arith, to_z-of_z)
