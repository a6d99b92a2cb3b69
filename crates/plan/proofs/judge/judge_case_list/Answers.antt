-- The plan's bytes are reached only past an accepted case; otherwise the case's refusal is told and the plan's list stays.
use Rattle.std.proofs.Common.{◌∙◌}
use Rattle.std.proofs.lemmas.Result.{err_from_is_err_and}
use Rattle.plan.specs.inside.VerdictLaws.{case_answer, case_laid, case_stopped}
use Rattle.plan.proofs.judge.judge_case_list.Goals as goal

pub returns-in_err-found-clause-result_value : goal.returns-in_err-found-clause-result_value
returns-in_err-found-clause-result_value c =
    let p = err_from_is_err_and c.from_residual.result c.from_residual.ensures.1 in
    rw (p.1, p.2) (case_stopped _ _ c.args.planlist.now (case_answer _ _ c.judge_and_lay-found.ensures.told_is ∙ c.in_err-found.was)).0

pub returns-in_err-found-clause-planlist_after : goal.returns-in_err-found-clause-planlist_after
returns-in_err-found-clause-planlist_after c =
    (case_stopped _ c.args.planbytes.now _ (case_answer _ _ c.judge_and_lay-found.ensures.told_is ∙ c.in_err-found.was)).1

pub invariant_of-accepted : goal.invariant_of-accepted
invariant_of-accepted c = let p = case_laid c.judge_and_lay-found.ensures c.in_ok-found.was in record { yes = p.0; laid = p.1 }
