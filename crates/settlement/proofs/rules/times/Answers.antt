-- The test of a row is whether it rises.
use Rattle.std.proofs.Common.{rules}
use Rattle.settlement.specs.law.RecordRules.{rises, time_question, time_questions}
use Rattle.settlement.proofs.rules.times.Goals as goal

pub returns : goal.returns
unfolding time_questions time_question
returns c = c.each_row.ensures (rises c.args.meter.now) (λ i l b h. search rules)
