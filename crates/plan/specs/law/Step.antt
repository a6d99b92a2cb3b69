-- The questions of one step: "first every node", "then every arc", "then every station", "then every node".
-- Assumes nothing.
use Rattle.std.specs.Prelude.{List, ◌++◌, ℕ, ℤ}
use Rattle.numbers.specs.law.Question.{Question}
use Rattle.plan.specs.law.NodeRules.{all_node_questions}
use Rattle.plan.specs.law.ArcRules.{all_arc_questions}
use Rattle.plan.specs.law.StationRules.{all_station_questions}
use Rattle.plan.specs.law.Balance.{all_balance_questions}

-- `rows` is the step's part of the plan, and `old v` the pressure of node v before the step
unfoldable pub step_questions : List ℤ → (ℕ → ℤ) → List ℤ → ℕ → List Question
step_questions case old rows i =
    all_node_questions case rows i
    ++ (all_arc_questions case old rows i
    ++ (all_station_questions case rows i
    ++ all_balance_questions case rows i))
