-- One turn of the loop over the steps: what is gathered before the step with index i, with that step's figures, is what is gathered before the next.
use Rattle.std.specs.Prelude.{◌≡◌, Bool, List, ℤ, ◌+ℤ◌}
use Rattle.std.proofs.Common.{◌∙◌}
use Rattle.std.proofs.Math.Path.{ap, ap₂}
use Prim.Native.Nat.{ℕ, suc, ◌+◌, ◌-◌, ◌<◌}
use native.Mathlib.Omega.{arith}
use Rattle.std.proofs.Math.IntN.{nat_abs}
use Rattle.numbers.specs.inside.SignedBounds.{abs_add}
use Rattle.numbers.specs.law.Sums.{sum, sum_n}
use Rattle.case.specs.law.Layout.{number_at, steps_of}
use Rattle.plan.specs.declared.region.Gathered.{Gathered}
use Rattle.plan.specs.law.PlanLayout.{step_rows}
use Rattle.plan.specs.law.BeforeStep.{pressure_at}
use Rattle.plan.specs.claims.Acceptance.{PlanRules}
use Rattle.plan.specs.law.Region.{brought_in}
use Rattle.plan.specs.law.RegionFigures.{brought_at, residual_at}
use Rattle.plan.specs.inside.RegionPreconditions.{RegionAdded}
use Rattle.plan.specs.inside.RegionSizes.{brought_small, residual_small}
use Rattle.plan.specs.inside.RegionSame.{residual_same}
use Rattle.plan.specs.inside.RegionLoop.{Gathering, accepted_case, ends_of, step_handed}

module _ {case plan : List ℤ} (r : PlanRules case plan) where
  pub turn : {inside : ℕ → Bool} {s i : ℕ} {g h : Gathered} {rows : List ℤ} → Gathering case plan inside s i g → i < steps_of case
      → rows ≡ step_rows case plan i → RegionAdded case inside rows i g h → Gathering case plan inside s (i + 1) h
  unfolding sum sum_n brought_at residual_at pressure_at
  turn {inside} {s} {i} {g} {h} {rows} k l e added =
      let d : RegionAdded case inside (step_rows case plan i) i g h = rw e at added in
      let a = accepted_case r in
      let step = step_handed r {old = g.pressures} i l k.held in
      let count : i + 1 - s ≡ suc (i - s) = omega (arith, k.from) in
      let here : s + (i - s) ≡ i = omega (arith, k.from) in
      let next : i + 1 ≡ suc i = omega arith in
      let in_step = brought_in case inside (step_rows case plan i) i in
      let same = residual_same case (number_at g.pressures) (pressure_at case plan i) (ends_of r) k.held.each (step_rows case plan i) i inside in
      record {
        from = omega (arith, k.from);
        held = rw next d.pressures;
        brought = rw (count, here) (d.brought ∙ ap (λ (z : ℤ). z +ℤ in_step) k.brought);
        residual = rw (count, here) (d.residual ∙ ap₂ ◌+◌ k.residual same);
        brought_few = omega (arith, ap nat_abs d.brought, abs_add g.brought in_step, brought_small a step l inside, k.brought_few);
        residual_few = omega (arith, d.residual, residual_small a step inside, k.residual_few);
      }
