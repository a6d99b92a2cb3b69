-- The reading's end decides: all was read, and the list's front is judged with the plan's bytes; or a refusal, and the plan's list stays.
use Rattle.std.proofs.Common.{◌≤◌, length, sym, arith}
use Rattle.std.proofs.lemmas.List.{length-take-le}
use Rattle.std.proofs.lemmas.Result.{err_from_is_err_and}
use Rattle.numbers.specs.inside.ReadingBounds.{read_no}
use Rattle.plan.specs.inside.VerdictLaws.{read_all, read_front, case_read_lem, case_list_lem, list_of, case_unread, case_unread_told}
use Rattle.plan.proofs.judge.judge_bytes.Goals as goal

pub returns-in_err-count-clause-result_value : goal.returns-in_err-count-clause-result_value
returns-in_err-count-clause-result_value c =
    let p = err_from_is_err_and c.from_residual.result c.from_residual.ensures.1 in
    rw (p.1, p.2) (case_unread_told _ c.args.planbytes.now _ c.args.planlist.now c.in_err-count.ensures.result_value)

pub returns-in_err-count-clause-caselist_after : goal.returns-in_err-count-clause-caselist_after
returns-in_err-count-clause-caselist_after c = case_list_lem _ _ _ _ c.read.ensures.list_after

pub returns-in_err-count-clause-planlist_after : goal.returns-in_err-count-clause-planlist_after
returns-in_err-count-clause-planlist_after c = (case_unread _ _ _ _ (read_no _ _ c.in_err-count.ensures.result_value)).1

pub slice_bounds-judge_case_list-end : goal.slice_bounds-judge_case_list-end
slice_bounds-judge_case_list-end c = omega (arith, (read_all _ _ c.in_ok-count.ensures.result_value).within, c.read.auto.list)

pub slice_bounds-judge_case_list-end-2 : goal.slice_bounds-judge_case_list-end-2
slice_bounds-judge_case_list-end-2 c =
    let h : c.in_ok-count.count ≤ length c.read.new.list = omega (arith, (read_all _ _ c.in_ok-count.ensures.result_value).within, c.read.auto.list) in
    sym (length-take-le _ _ h)

pub returns-clause-result_value : goal.returns-clause-result_value
returns-clause-result_value c =
    let f = read_all _ _ c.in_ok-count.ensures.result_value in
    let e = read_front _ _ _ c.read.new.list f c.read.ensures.list_after in
    case_read_lem _ _ _ _ f.ended e c.judge_case_list.ensures.result_value

pub returns-clause-caselist_after : goal.returns-clause-caselist_after
returns-clause-caselist_after c = case_list_lem _ _ _ _ c.read.ensures.list_after

pub returns-clause-planlist_after : goal.returns-clause-planlist_after
returns-clause-planlist_after c =
    let f = read_all _ _ c.in_ok-count.ensures.result_value in
    let e = read_front _ _ _ c.read.new.list f c.read.ensures.list_after in
    list_of _ _ _ _ f.ended e c.judge_case_list.ensures.planlist_after
