-- A turn's rows are the step's part of the plan; by its answer the loop goes on, or the step's no is the plan's.
use Rattle.std.specs.Prelude.{Err}
use Rattle.plan.proofs.Common.{◌≡◌, ◌∙◌, ◌<◌, arith, rules}
use Rattle.case.specs.law.Layout.{steps_of}
use Rattle.plan.specs.inside.StepAnswer.{kept_yes}
use Rattle.plan.proofs.SignedReads.{as_told}
use Rattle.plan.proofs.StepsLoop.{opens, closes, going, kept, room, refused, went_on, finished}
use Rattle.plan.proofs.accepted.Accepted.steps.Goals as goal

pub loop-i-init : goal.loop-i-init
loop-i-init c = going c.args.self.now.yes c.start-previous.ensures (opens (as_told c.gas_at.type_inv c.gas_at.ensures) c.opened-totals.ensures)

pub returns-in_err-residual : goal.returns-in_err-residual
returns-in_err-residual c =
    let e : c.from_residual.result ≡ Err c.in_err-residual.field-0.0 = search rules in
    let l : c.loop-i.i < steps_of c.args.self.now.list.now = omega (arith, c.args.self.now.laid.steps) in
    e ∙ refused c.args.self.now.yes c.loop-i.invariant l c.step_rows-rows.ensures _ c.step.ensures c.in_err-residual.was

pub added-totals-requires : goal.added-totals-requires
added-totals-requires c =
    let a = c.args.self.now.yes in
    let l : c.loop-i.i < steps_of c.args.self.now.list.now = omega (arith, c.args.self.now.laid.steps) in
    let y = kept_yes _ c.step.ensures c.in_ok-residual.was in
    (room a c.loop-i.invariant l c.step_rows-rows.ensures, l, kept a c.loop-i.invariant l c.step_rows-rows.ensures y.0, y.1)

pub loop-i-preserved : goal.loop-i-preserved
loop-i-preserved c =
    let l : c.loop-i.i < steps_of c.args.self.now.list.now = omega (arith, c.args.self.now.laid.steps) in
    let y = kept_yes _ c.step.ensures c.in_ok-residual.was in
    went_on c.args.self.now.yes c.loop-i.invariant l c.step_rows-rows.ensures y.0 c.added-totals.ensures c.after-previous.ensures

pub returns : goal.returns
returns c =
    let s = c.args.self.now in
    finished s.yes c.loop-i.invariant (omega (arith, s.laid.steps)) (closes (as_told c.gas_at-2.type_inv c.gas_at-2.ensures) c.closed.ensures)
