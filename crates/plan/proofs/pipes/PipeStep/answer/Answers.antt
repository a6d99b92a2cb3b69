-- Both residuals are small enough to be read as signed numbers; 28 and then 29 hold them against the tolerances.
use Rattle.plan.proofs.Common.{◌≡◌, ap, ◌∙◌, ℕ, arith, ℤ, pos, nat_abs, w64, to_z, of_z, held, held_fits, param, literal, ◌*ʳ◌}
use Rattle.numbers.specs.inside.SignedBounds.{Bounded}
use Rattle.numbers.specs.inside.SignedLocals.{fit}
use Rattle.numbers.specs.inside.QuestionLaws.{or_else_yes}
use Rattle.plan.specs.declared.step.Step.{Step}
use Rattle.plan.specs.law.Pipes.{pipe_residual}
use Rattle.plan.specs.law.ArcRules.{pipe_questions}
use Rattle.plan.specs.inside.CaseSizes.{tolerance_sized}
use Rattle.plan.specs.inside.StepArcs.{AtPipe, residual_in, balance_in}
use Rattle.plan.proofs.CaseFacts.{mass_asked, ends_asked}
use Rattle.plan.proofs.ArcLaws.{imbalance_sized, balance_sized}
use Rattle.plan.proofs.SignedReads.{read, read_bounded, as_told}
use Rattle.plan.proofs.pipes.PipeStep.answer.Goals as goal

module _ {s : Step} {e : ℕ} (p : AtPipe s e) where
  mass_small : {n : ℕ} → n ≡ residual_in s e → Bounded (pos n) 100000000000000
  unfolding pipe_residual
  mass_small h = record { bound = rw h (imbalance_sized p).bound }

  ends_is : {x : ℤ} {n : ℕ} → x ≡ balance_in s e → n ≡ nat_abs (to_z w64 (of_z w64 x)) → n ≡ nat_abs (balance_in s e)
  ends_is h k = k ∙ ap nat_abs (read h (balance_sized p) tt).val

  ends_small : {n : ℕ} → n ≡ nat_abs (balance_in s e) → Bounded (pos n) 300000000000000
  ends_small h = record { bound = rw h (balance_sized p).bound }

pub overflow_cast-mass : goal.overflow_cast-mass
overflow_cast-mass c = fit (mass_small c.args.self.now.at c.residual-mass.ensures) tt

pub size-ends-requires : goal.size-ends-requires
size-ends-requires c = omega (arith, (read_bounded (read c.pressure_balance.ensures (balance_sized c.args.self.now.at) tt)).bound)

pub overflow_cast-ends : goal.overflow_cast-ends
overflow_cast-ends c = fit (ends_small c.args.self.now.at (ends_is c.args.self.now.at c.pressure_balance.ensures c.size-ends.ensures)) tt

pub overflow_mul-most : goal.overflow_mul-most
overflow_mul-most c = held_fits (literal (pos 1000000) *ʳ read c.at-most.ensures (tolerance_sized c.args.self.now.step.case.yes) tt) tt

pub returns : goal.returns
unfolding pipe_questions
returns c =
    let k = c.args.self.now.at.pipe in
    let mass = (param (mass_small c.args.self.now.at c.residual-mass.ensures) tt).val ∙ ap pos c.residual-mass.ensures in
    let is = ends_is c.args.self.now.at c.pressure_balance.ensures c.size-ends.ensures in
    let ends = (param (ends_small c.args.self.now.at is) tt).val ∙ ap pos is in
    let most = (held (literal (pos 1000000) *ʳ read c.at-most.ensures (tolerance_sized c.args.self.now.step.case.yes) tt) tt).val in
    let tolerance = as_told c.at.type_inv c.at.ensures in
    rw (mass_asked _ _ _ _ _ k, ends_asked _ _ _ k) (grind (arith, or_else_yes))
