-- The nodes before v have no "no".
use Rattle.plan.proofs.Common.{◌≡◌}
use Rattle.numbers.specs.law.Question.{first_no}
use Rattle.numbers.specs.inside.ItemLaws.{rest}
use Rattle.plan.specs.law.NodeRules.{node_questions, all_node_questions}
use Rattle.plan.proofs.accepted.Accepted.node_answers.Given as goal

abbrev pub invariant-loop-v : goal.invariant-loop-v
invariant-loop-v l = first_no (all_node_questions l.self.list.now l.rows l.i) ≡ rest (node_questions l.self.list.now l.rows l.i) l.v l.self.layout.now.nodes
