-- The arcs before e have no "no".
use Rattle.plan.proofs.Common.{◌≡◌}
use Rattle.numbers.specs.law.Question.{first_no}
use Rattle.numbers.specs.inside.ItemLaws.{rest}
use Rattle.plan.specs.inside.StepArcs.{arc_asked, arcs_asked}
use Rattle.plan.proofs.step.Step.arc_answers.Given as goal

abbrev pub invariant-loop-e : goal.invariant-loop-e
invariant-loop-e l = first_no (arcs_asked l.self) ≡ rest (arc_asked l.self) l.e l.self.case.layout.now.arcs
