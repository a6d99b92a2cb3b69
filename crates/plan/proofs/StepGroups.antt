-- A step's questions are asked group by group: nodes, arcs, stations, balance. A group of which each answer is yes bounds what the next one reads.
use Rattle.plan.specs.inside.AnsweredSizes.{nodes_sized, pressures_sized, flows_sized, machines_kept_lem}

pub ruleset answered = (nodes_sized, pressures_sized, flows_sized, machines_kept_lem)
