-- Each total is the old one with what the step adds; what a kept step adds is small, and so no sum is too large.
use Rattle.plan.proofs.Common.{refl, arith, rules, held, held_fits, ◌+ʳ◌}
use Rattle.plan.proofs.SignedReads.{read}
use Rattle.plan.specs.inside.StepSizes.{pressure_slack_sized, demand_slack_sized}
use Rattle.plan.proofs.totals.Totals.added.Goals as goal

pub overflow_add-result : goal.overflow_add-result
overflow_add-result c =
    let k = c.requires.2 in
    let slack = pressure_slack_sized c.args.rows.now c.args.case.now.yes k.node_rows in
    held_fits (read refl c.requires.0.pressure tt +ʳ read c.slacks-slack.ensures.pressure slack tt) tt

pub overflow_add-result-2 : goal.overflow_add-result-2
overflow_add-result-2 c =
    let k = c.requires.2 in
    let slack = demand_slack_sized c.args.rows.now c.args.case.now.yes k.node_rows in
    held_fits (read refl c.requires.0.demand tt +ʳ read c.slacks-slack.ensures.demand slack tt) tt

pub returns : goal.returns
returns c =
    let y = c.requires in
    let k = c.requires.2 in
    let p = pressure_slack_sized c.args.rows.now c.args.case.now.yes k.node_rows in
    let d = demand_slack_sized c.args.rows.now c.args.case.now.yes k.node_rows in
    record {
      pressure = (held (read refl y.0.pressure tt +ʳ read c.slacks-slack.ensures.pressure p tt) tt).val;
      demand = (held (read refl y.0.demand tt +ʳ read c.slacks-slack.ensures.demand d tt) tt).val;
      switching = omega arith;
      residual = omega arith;
      opening = search rules;
    }
