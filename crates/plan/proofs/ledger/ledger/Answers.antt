-- An accepted plan leaves 40 and 41 to decide, and a refused one decides; what was read back of the set and the times is what was given.
use Rattle.std.proofs.Common.{sym, ap, ◌∙◌, to_z-of_z, Err}
use Rattle.std.proofs.lemmas.Result.{err_from_is_err_and}
use Rattle.numbers.specs.declared.answer.No.{No}
use Rattle.plan.specs.law.Ledger.{Ledger}
use Rattle.plan.specs.claims.Acceptance.{sound}
use Rattle.plan.specs.inside.LedgerVerdict.{ledger_after, ledger_refused}
use Rattle.plan.specs.inside.VerdictLaws.{head_answer, head_case, head_keeps, head_laid, head_passed, judge_yes, judge_no}
use Rattle.plan.proofs.LedgerAnswers.{answers}
use Rattle.plan.proofs.ledger.ledger.Goals as goal

pub returns-in_err-head : goal.returns-in_err-head
returns-in_err-head c =
    let a = c.args in
    let p = err_from_is_err_and c.from_residual.result c.from_residual.ensures.1 in
    let n = c.in_err-head.field-0.0 in
    let j = judge_no _ _ (head_answer _ _ _ c.judge_head-head.ensures.told_is ∙ c.in_err-head.was) in
    let r = ledger_refused a.case.now a.plan.now a.set a.s a.t n.number n.step n.place (sym j) in
    let x = answers a.case.now a.plan.now a.set a.s a.t (p.1 ∙ ap (λ (m : No). let v : Ledger = Err m in v) p.2 ∙ r) in
    record { told = x.0; balanced = x.1 }

pub invariant_of-accepted : goal.invariant_of-accepted
invariant_of-accepted c = let p = head_laid _ _ c.judge_head-head.ensures c.in_ok-head.was in record { yes = p.0; laid = p.1 }

pub returns-in_err-steps : goal.returns-in_err-steps
returns-in_err-steps c =
    let a = c.args in
    let p = err_from_is_err_and c.from_residual-in_err-steps.result c.from_residual-in_err-steps.ensures.1 in
    let n = c.in_err-steps.field-0.0 in
    let y = head_answer _ _ _ c.judge_head-head.ensures.told_is ∙ c.in_ok-head.was in
    let j = judge_yes _ _ (head_case _ _ y).yes (head_passed _ _ (head_keeps _ _ y) c.in_err-steps.ensures) in
    let r = ledger_refused a.case.now a.plan.now a.set a.s a.t n.number n.step n.place (sym j) in
    let x = answers a.case.now a.plan.now a.set a.s a.t (p.1 ∙ ap (λ (m : No). let v : Ledger = Err m in v) p.2 ∙ r) in
    record { told = x.0; balanced = x.1 }

pub region_ledger-requires : goal.region_ledger-requires
region_ledger-requires c =
    let y = head_answer _ _ _ c.judge_head-head.ensures.told_is ∙ c.in_ok-head.was in
    sound _ _ _ (sym (judge_yes _ _ (head_case _ _ y).yes (head_passed _ _ (head_keeps _ _ y) c.in_ok-steps.ensures)))

pub returns : goal.returns
returns c =
    let a = c.args in
    let f = c.ranges in
    let y = head_answer _ _ _ c.judge_head-head.ensures.told_is ∙ c.in_ok-head.was in
    let j = judge_yes _ _ (head_case _ _ y).yes (head_passed _ _ (head_keeps _ _ y) c.in_ok-steps.ensures) in
    let h = simp (to_z-of_z f.set, to_z-of_z f.s, to_z-of_z f.t) at c.region_ledger.ensures in
    let x = answers a.case.now a.plan.now a.set a.s a.t (ledger_after a.case.now a.plan.now a.set a.s a.t _ (sym j) h) in
    record { told = x.0; balanced = x.1 }
