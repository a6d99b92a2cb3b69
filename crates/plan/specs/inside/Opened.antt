-- What a proof opens together: the definitions of the law that one rule is made of, under one name.
use Rattle.plan.specs.law.Balance.{balance_kept, balance_questions, all_balance_questions}
use Rattle.plan.specs.law.StationRules.{active_set, choice_kept}
use Rattle.plan.specs.law.Totals.{node_residuals}

-- 33 of every node
unfoldable pub balance : Unit {0}
unfolding all_balance_questions balance_questions balance_kept node_residuals
balance = tt

-- 30 of one station
unfoldable pub choice : Unit {0}
unfolding choice_kept active_set
choice = tt
