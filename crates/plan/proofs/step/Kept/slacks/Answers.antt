-- Each of the two is the sum of its own parts.
use Rattle.std.proofs.Common.{rules}
use Rattle.plan.specs.law.Totals.{pressure_slack_in, demand_slack_in}
use Rattle.plan.proofs.step.Kept.slacks.Goals as goal

pub returns : goal.returns
unfolding pressure_slack_in demand_slack_in
returns c = record { pressure = search rules; demand = search rules }
