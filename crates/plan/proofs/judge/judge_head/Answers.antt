-- Past an accepted case the answer is that to 20, and else the case's own refusal; the layout is the one that the judge of the case gives.
use Rattle.std.proofs.Common.{ap, sym, refl, ◌∙◌, Bool, List, [], ◌∷◌, ℤ}
use Rattle.numbers.specs.law.Question.{answer, told}
use Rattle.numbers.specs.inside.QuestionLaws.{or_else_yes, went_on, stopped}
use Rattle.case.specs.declared.records.Laying.{Laying}
use Rattle.case.specs.law.Judged.{case_questions, judged_case}
use Rattle.case.specs.law.LayoutOf.{LayingOf}
use Rattle.plan.specs.law.PlanHead.{head_question, head_questions, head_judged, case_laying}
use Rattle.plan.specs.inside.VerdictLaws.{case_answer, case_laid}
use Rattle.plan.proofs.judge.judge_head.Goals as goal

-- the layout, beside the answer on the case alone
laid : (case : List ℤ) {l : Laying} → LayingOf case l → LayingOf case (case_laying case l.layout)
unfolding judged_case
laid case l = record { told_is = refl; passed = l.passed; refused = l.refused }

pub invariant_of-accepted : goal.invariant_of-accepted
invariant_of-accepted c = let p = case_laid c.judge_and_lay-found.ensures c.in-Ok.is in record { yes = p.0; laid = p.1 }

pub returns-in-Ok : goal.returns-in-Ok
unfolding head_judged head_questions
returns-in-Ok c =
    let case = c.args.case.now in
    let f = c.judge_and_lay-found.ensures in
    let h = c.ask.ensures ∙ ap (λ (b : Bool). answer b 20 0 0) c.head_kept.ensures ∙ sym (or_else_yes _) in
    record {
      told_is = ap told (went_on (case_questions case) (head_question case c.args.plan.now ∷ []) (sym (case_answer case _ f.told_is)) c.in-Ok.is h);
      laid = laid case f;
    }

pub returns-in-Err : goal.returns-in-Err
unfolding head_judged head_questions
returns-in-Err c =
    let case = c.args.case.now in
    let f = c.judge_and_lay-found.ensures in
    record {
      told_is = ap told (stopped (case_questions case) (head_question case c.args.plan.now ∷ []) (sym (case_answer case _ f.told_is)) c.in-Err.is);
      laid = laid case f;
    }
