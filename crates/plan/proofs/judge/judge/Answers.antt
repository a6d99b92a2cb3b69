-- Past the case and 20 the verdict is that of the steps, and otherwise their own refusal.
use Rattle.std.proofs.Common.{◌∙◌}
use Rattle.std.proofs.lemmas.Result.{err_from_is_err_and}
use Rattle.plan.specs.inside.VerdictLaws.{head_answer, head_case, head_keeps, head_laid, head_passed, judge_yes, judge_no}
use Rattle.plan.proofs.judge.judge.Goals as goal

pub returns-in_err-head : goal.returns-in_err-head
returns-in_err-head c =
    let p = err_from_is_err_and c.from_residual.result c.from_residual.ensures.1 in
    rw (p.1, p.2) (judge_no _ _ (head_answer _ _ _ c.judge_head-head.ensures.told_is ∙ c.in_err-head.was))

pub invariant_of-accepted : goal.invariant_of-accepted
invariant_of-accepted c = let p = head_laid _ _ c.judge_head-head.ensures c.in_ok-head.was in record { yes = p.0; laid = p.1 }

pub returns : goal.returns
returns c =
    let y = head_answer _ _ _ c.judge_head-head.ensures.told_is ∙ c.in_ok-head.was in
    judge_yes _ _ (head_case _ _ y).yes (head_passed _ _ (head_keeps _ _ y) c.steps.ensures)
