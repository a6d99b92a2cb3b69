-- The steps before `i` keep every question; `previous` is what was before step `i`, and `totals` are the totals so far.
use Rattle.plan.proofs.StepsLoop.{Going}
use Rattle.plan.proofs.accepted.Accepted.steps.Given as goal

abbrev pub invariant-loop-i : goal.invariant-loop-i
invariant-loop-i l = Going l.self.list.now l.plan l.previous l.totals l.i
