-- The reading's end decides: all was read, and the verdict is that on the list's front; or a refusal, with the plan's number for it.
use Rattle.std.proofs.Common.{◌≤◌, length, sym, arith}
use Rattle.std.proofs.lemmas.List.{length-take-le}
use Rattle.numbers.specs.inside.ReadingBounds.{read_no}
use Rattle.plan.specs.inside.VerdictLaws.{read_all, read_front, plan_read_lem, plan_unread}
use Rattle.plan.proofs.accepted.Accepted.judge_plan_bytes.Goals as goal

pub slice_bounds-judge_plan-end : goal.slice_bounds-judge_plan-end
slice_bounds-judge_plan-end c = omega (arith, (read_all _ _ c.in-Ok.ensures.result_value).within, c.read.auto.list)

pub slice_bounds-judge_plan-end-in-Ok : goal.slice_bounds-judge_plan-end-in-Ok
slice_bounds-judge_plan-end-in-Ok c =
    let h : c.in-Ok.count ≤ length c.read.new.list = omega (arith, (read_all _ _ c.in-Ok.ensures.result_value).within, c.read.auto.list) in
    sym (length-take-le _ _ h)

pub returns-in-Ok-clause-result_value : goal.returns-in-Ok-clause-result_value
returns-in-Ok-clause-result_value c =
    let f = read_all _ _ c.in-Ok.ensures.result_value in
    let e = read_front _ _ _ _ f c.read.ensures.list_after in
    plan_read_lem _ _ _ c.read.new.list c.args.self.now.yes.yes f e c.judge_plan.ensures

pub returns-in-Err-clause-result_value : goal.returns-in-Err-clause-result_value
returns-in-Err-clause-result_value c =
    plan_unread _ _ _ (read_no _ _ c.in-Err.ensures.result_value) c.plan_number.ensures
