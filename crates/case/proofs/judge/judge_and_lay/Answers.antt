-- The rules are asked where 10 to 12 let the list pass, and then the layout is that of the case.
use Rattle.std.proofs.Common.{rules}
use Rattle.case.proofs.Common.{ap, sym, refl}
use Rattle.numbers.specs.law.Question.{told}
use Rattle.case.specs.law.Judged.{list_questions, rule_questions, case_questions, judged_case}
use Rattle.case.specs.inside.CountsInRange.{list_counted}
use Rattle.case.proofs.Asked.{stopped, went_on}
use Rattle.case.proofs.judge.judge_and_lay.Goals as goal

pub head_read-requires : goal.head_read-requires
head_read-requires c = list_counted c.args.case.now (sym c.in-Ok.ensures)

pub returns-in-Ok : goal.returns-in-Ok
unfolding judged_case case_questions
returns-in-Ok c =
    let l = c.args.case.now in
    let yes = c.in-Ok.ensures in
    record {
      told_is = ap told (went_on (list_questions l) (rule_questions l) yes refl c.rules.ensures);
      passed = λ y. rw c.head_read.ensures at c.layout-layout.ensures;
      refused = λ n s p q. absurd cc;
    }

pub returns-in-Err : goal.returns-in-Err
unfolding judged_case case_questions
returns-in-Err c =
    let l = c.args.case.now in
    let no = c.in-Err.ensures in
    record {
      told_is = ap told (stopped (list_questions l) (rule_questions l) no refl);
      passed = λ y. absurd cc;
      refused = λ n s p q. search rules;
    }
