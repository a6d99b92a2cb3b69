-- What a row of a table is computed with: the definitions of the law, gathered by layer, so that a proof by computation opens them under one name.
use Rattle.std.specs.Int.Count.{ones}
use Rattle.numbers.specs.law.Sums.{sum, sum_n, count}
use Rattle.numbers.specs.law.Groups.{groups}
use Rattle.numbers.specs.law.Reading.{read_of, read_told, number_of}
use Rattle.case.specs.law.Extents.{most_nodes, most_arcs}
use Rattle.case.specs.law.Layout.{node_width, node_at, bounds_in, demand_in, arc_at, station_at}
use Rattle.case.specs.law.Layout.{direction_width, direction_at, state_at, machine_width, machine_at}
use Rattle.case.specs.law.Field.{field, fields}
use Rattle.case.specs.law.HeadFields.{count_fields, tolerance_fields, head_fields}
use Rattle.case.specs.law.TimeFields.{time_field, time_fields}
use Rattle.case.specs.law.NodeFields.{node_head, bound_fields, demand_field, node_row_fields, node_fields, all_node_fields}
use Rattle.case.specs.law.ArcFields.{end_fields, pipe_fields, member_fields, compressor_fields, kind_fields, arc_fields, all_arc_fields}
use Rattle.case.specs.law.StationFields.{station_head, direction_fields, state_row_fields, state_fields, machine_fields}
use Rattle.case.specs.law.StationFields.{part_fields, row_fields, station_fields, all_station_fields}
use Rattle.case.specs.law.Leftover.{leftover}
use Rattle.case.specs.law.StationArcs.{arcs_before, arc_set}
use Rattle.case.specs.law.StationNodes.{with_node, ends_of, station_nodes, plain_nodes}
use Rattle.case.specs.law.ArcEnds.{arc_ends, all_arc_ends}
use Rattle.case.specs.law.OneStation.{one_station, all_one_station}
use Rattle.case.specs.law.StationSize.{station_size, all_station_sizes}
use Rattle.case.specs.law.Directions.{only_fence, sets_kept, direction_sets, all_direction_sets}
use Rattle.case.specs.law.States.{state_kept, machines_kept, start_kept, station_kept, state_sets, all_state_sets}
use Rattle.case.specs.law.Judged.{row_questions, list_questions, early_rules, rule_questions, case_questions}
use Rattle.plan.specs.law.PlanLayout.{step_width, step_at, step_rows}
use Rattle.plan.specs.law.Setting.{directed, combined_of, valve_of, active_of, setting_of}
use Rattle.plan.specs.law.BeforeStep as before
use Rattle.plan.specs.law.PlanHead.{head_kept}
use Rattle.plan.specs.law.NodeRules.{slacks_kept, boundary_flow_kept, node_numbers_kept, demand_met, active_bounds_kept, node_questions, all_node_questions}
use Rattle.plan.specs.law.ArcFlows.{flows_kept, machines_within, arc_numbers_kept, flow_allowed}
use Rattle.plan.specs.law.Machines.{flow_part, machine_flow, gain_part, machine_gain}
use Rattle.plan.specs.law.ArcPressures.{reach_kept, compression_kept, pressures_kept}
use Rattle.plan.specs.law.ArcMachines.{machines_carry, machines_used}
use Rattle.plan.specs.law.Pipes.{duration, pipe_imbalance, pipe_residual, pipe_mass_kept, pressure_balance, pipe_pressures_kept}
use Rattle.plan.specs.law.ArcRules.{flow_questions, pressure_questions, pipe_questions, arc_questions, all_arc_questions}
use Rattle.plan.specs.law.StationRules.{active_set, obeyed, choice_kept, machines_once, station_part, station_flow}
use Rattle.plan.specs.law.StationRules.{fence_node_kept, fence_flows_kept, station_questions, all_station_questions}
use Rattle.plan.specs.law.Balance.{flow_at_from, flow_at_to, out_part, in_part, outflow, inflow, net_flow}
use Rattle.plan.specs.law.Balance.{node_imbalance, node_residual, balance_kept, balance_questions, all_balance_questions}
use Rattle.plan.specs.law.Step.{step_questions}
use Rattle.plan.specs.law.Totals.{pressure_slack_at, demand_slack_at, pressure_slack_in, demand_slack_in, direction_cost, state_cost, activity_cost}
use Rattle.plan.specs.law.Totals.{choice_cost, choice_costs, activity_costs, pipe_part, pipe_residuals, node_residuals, gas_part, gas_at}
use Rattle.plan.specs.law.Totals.{step_pressure_slack, step_demand_slack, step_switching, step_residual, totals_to, totals_of}
use Rattle.plan.specs.law.Judged.{plan_step, plan_questions, questions, judge_of}
use Rattle.plan.specs.law.Region.{inner_pipes, inner_gas, region_gas, region_supply, edge_flow, supplies_in, edge_flows, brought_in}
use Rattle.plan.specs.law.RegionResidual.{own_node, own_pipe, own_nodes, own_pipes, region_residual}
use Rattle.plan.specs.law.RegionFigures.{gas_inside, brought_at, residual_at, brought_over, residual_over, figures_of}
use Rattle.plan.specs.law.Ledger.{names_nodes, foreign_node, times_ordered, region_questions, ledger_questions, ledger_of}
use Rattle.plan.specs.law.JudgedBytes.{bytes_judged}

-- groups of seven: 1 to 4
unfoldable pub codec : Unit {0}
unfolding groups read_of read_told number_of
codec = tt

-- sums, and where rows stand
unfoldable pub layout : Unit {0}
unfolding sum sum_n count ones node_width node_at bounds_in demand_in arc_at station_at direction_width direction_at state_at machine_width machine_at
    step_width step_at step_rows
layout = tt

-- 10 to 12
unfoldable pub case_fields : Unit {0}
unfolding field fields most_nodes most_arcs count_fields tolerance_fields head_fields time_field time_fields
    node_head bound_fields demand_field node_row_fields node_fields all_node_fields
    end_fields pipe_fields member_fields compressor_fields kind_fields arc_fields all_arc_fields
    station_head direction_fields state_row_fields state_fields machine_fields part_fields row_fields station_fields all_station_fields leftover
case_fields = tt

-- 13 to 17
unfoldable pub case_rules : Unit {0}
unfolding arcs_before arc_set with_node ends_of station_nodes plain_nodes arc_ends all_arc_ends one_station all_one_station station_size all_station_sizes
    only_fence sets_kept direction_sets all_direction_sets state_kept machines_kept start_kept station_kept state_sets all_state_sets
    row_questions list_questions early_rules rule_questions case_questions
case_rules = tt

-- 20 to 29
unfoldable pub nodes_and_arcs : Unit {0}
unfolding before.pressure_at before.active_at before.direction_chosen before.state_chosen directed combined_of valve_of active_of setting_of head_kept
    slacks_kept boundary_flow_kept node_numbers_kept demand_met active_bounds_kept node_questions all_node_questions
    flows_kept machines_within arc_numbers_kept flow_allowed flow_part machine_flow gain_part machine_gain reach_kept compression_kept pressures_kept
    machines_carry machines_used
    duration pipe_imbalance pipe_residual pipe_mass_kept pressure_balance pipe_pressures_kept
    flow_questions pressure_questions pipe_questions arc_questions all_arc_questions
nodes_and_arcs = tt

-- 30 to 33
unfoldable pub stations_and_balance : Unit {0}
unfolding active_set obeyed choice_kept machines_once station_part station_flow fence_node_kept fence_flows_kept station_questions all_station_questions
    flow_at_from flow_at_to out_part in_part outflow inflow net_flow node_imbalance node_residual balance_kept balance_questions
    all_balance_questions step_questions
stations_and_balance = tt

-- the six totals, and the verdict
unfoldable pub verdict : Unit {0}
unfolding pressure_slack_at demand_slack_at pressure_slack_in demand_slack_in direction_cost state_cost activity_cost choice_cost choice_costs activity_costs
    pipe_part pipe_residuals node_residuals gas_part gas_at step_pressure_slack step_demand_slack step_switching step_residual totals_to totals_of
    plan_step plan_questions questions judge_of
verdict = tt

-- 40, 41 and the six figures
unfoldable pub ledger : Unit {0}
unfolding inner_pipes inner_gas region_gas region_supply edge_flow supplies_in edge_flows brought_in own_node own_pipe own_nodes own_pipes region_residual
    gas_inside brought_at residual_at brought_over residual_over figures_of names_nodes foreign_node times_ordered region_questions ledger_questions ledger_of
ledger = tt

-- all of it, with the call on two byte strings
unfoldable pub law : Unit {0}
unfolding codec layout case_fields case_rules nodes_and_arcs stations_and_balance verdict ledger bytes_judged
law = tt
