-- The nodes before `v` keep 33, and `sum` is the sum of their residuals.
use Rattle.plan.proofs.Common.{◌≡◌, ◌*◌, ◌≤◌}
use Rattle.numbers.specs.law.Question.{first_no}
use Rattle.numbers.specs.law.Sums.{sum_n}
use Rattle.numbers.specs.inside.ItemLaws.{rest}
use Rattle.plan.specs.law.Balance.{node_residual, balance_questions, all_balance_questions}
use Rattle.plan.specs.inside.SumSizes.{most_node_residual}
use Rattle.plan.proofs.step.Passed.balance.Given as goal

abbrev pub invariant-loop-v : goal.invariant-loop-v
invariant-loop-v l = record {
  summed : l.sum ≡ sum_n l.v (node_residual l.self.step.case.list.now l.self.step.rows.now l.self.step.i);
  small : l.sum ≤ most_node_residual * l.v;
  asked : first_no (all_balance_questions l.self.step.case.list.now l.self.step.rows.now l.self.step.i)
      ≡ rest (balance_questions l.self.step.case.list.now l.self.step.rows.now l.self.step.i) l.v l.self.step.case.layout.now.nodes;
}
