-- A head without a "no" has counts in range.
use Rattle.case.proofs.Common.{◌∙◌, sym}
use Rattle.case.specs.inside.CountsInRange.{head_counted}
use Rattle.case.proofs.judge.list_answer.Goals as goal

pub head_read-requires : goal.head_read-requires
head_read-requires c = head_counted c.args.case.now (sym c.head.ensures ∙ c.in_ok-head.was)
