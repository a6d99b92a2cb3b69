-- Each figure is the old one with the step's: what a kept step brings and leaves is small, and so neither sum is too large.
use mathlib.Core.Path.{refl}
use Rattle.plan.proofs.Common.{arith, held, held_fits, ◌+ʳ◌}
use Rattle.plan.specs.law.RegionResidual.{region_residual}
use Rattle.plan.specs.inside.RegionSet.{inside_of}
use Rattle.plan.specs.inside.RegionSizes.{brought_small, residual_small}
use Rattle.plan.proofs.SignedReads.{read}
use Rattle.plan.proofs.region.Gathered.with_step.Goals as goal

pub overflow_add-own : goal.overflow_add-own
unfolding region_residual
overflow_add-own c = let p = c.requires in omega (arith, residual_small c.args.case.now.yes p.1 (inside_of c.args.inside.now))

pub overflow_add-result : goal.overflow_add-result
overflow_add-result c =
    let p = c.requires in
    held_fits (read refl p.2.brought tt +ʳ read c.brought_in.ensures (record { bound = brought_small c.args.case.now.yes p.1 p.0 _ }) tt) tt

pub overflow_add-result-2 : goal.overflow_add-result-2
unfolding region_residual
overflow_add-result-2 c = let p = c.requires in omega (arith, residual_small c.args.case.now.yes p.1 (inside_of c.args.inside.now), p.2.residual)

pub returns : goal.returns
unfolding region_residual
returns c =
    let p = c.requires in
    record {
      pressures = c.row_pressures.ensures;
      brought = (held (read refl p.2.brought tt +ʳ read c.brought_in.ensures (record { bound = brought_small c.args.case.now.yes p.1 p.0 _ }) tt) tt).val;
      residual = omega arith;
    }
