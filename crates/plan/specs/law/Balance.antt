-- 33, of one node in one step: "Is dt × |flow out - flow in - d| ≤ E, over all arcs (a pipe's flow is a at from and b at to, any other arc's a - b at both)?"
-- Assumes nothing.
use Rattle.std.specs.Prelude.{Bool, cond, List, [], ◌∷◌, ℕ, ◌*◌, eqb, ℤ, pos, nat_abs, ◌-ℤ◌}
use Rattle.std.specs.Int.Signed.{le_z}
use Rattle.numbers.specs.law.Question.{Question}
use Rattle.numbers.specs.law.Items.{over}
use Rattle.numbers.specs.law.Sums.{sum, only}
use Rattle.case.specs.law.Layout.{nodes_of, arcs_of, mass_tolerance}
use Rattle.case.specs.law.Records.{arc_of}
use Rattle.plan.specs.law.Compared.{asked}
use Rattle.plan.specs.law.PlanRecords.{node_row, arc_row}
use Rattle.plan.specs.law.Pipes.{duration, is_pipe}

-- an arc's flow at each of its ends
unfoldable pub flow_at_from : List ℤ → List ℤ → ℕ → ℤ
flow_at_from case rows e = cond (is_pipe case e) (arc_row case rows e).a ((arc_row case rows e).a -ℤ (arc_row case rows e).b)

unfoldable pub flow_at_to : List ℤ → List ℤ → ℕ → ℤ
flow_at_to case rows e = cond (is_pipe case e) (arc_row case rows e).b ((arc_row case rows e).a -ℤ (arc_row case rows e).b)

-- what arc e takes out of node v, and what it brings
unfoldable pub out_part : List ℤ → List ℤ → ℕ → ℕ → ℤ
out_part case rows v e = only (eqb (arc_of case e).from v) (flow_at_from case rows e)

unfoldable pub in_part : List ℤ → List ℤ → ℕ → ℕ → ℤ
in_part case rows v e = only (eqb (arc_of case e).to v) (flow_at_to case rows e)

unfoldable pub outflow : List ℤ → List ℤ → ℕ → ℤ
outflow case rows v = sum (arcs_of case) (out_part case rows v)

unfoldable pub inflow : List ℤ → List ℤ → ℕ → ℤ
inflow case rows v = sum (arcs_of case) (in_part case rows v)

unfoldable pub net_flow : List ℤ → List ℤ → ℕ → ℤ
net_flow case rows v = outflow case rows v -ℤ inflow case rows v

-- "flow out - flow in - d"
unfoldable pub node_imbalance : List ℤ → List ℤ → ℕ → ℤ
node_imbalance case rows v = net_flow case rows v -ℤ (node_row rows v).d

-- the left side of 33, of which dt is at least 1
unfoldable pub node_residual : List ℤ → List ℤ → ℕ → ℕ → ℕ
node_residual case rows i v = nat_abs (duration case i) * nat_abs (node_imbalance case rows v)

unfoldable pub balance_kept : List ℤ → List ℤ → ℕ → ℕ → Bool
balance_kept case rows i v = le_z (pos (node_residual case rows i v)) (mass_tolerance case)

unfoldable pub balance_questions : List ℤ → List ℤ → ℕ → ℕ → List Question
balance_questions case rows i v = asked 33 i v (balance_kept case rows i v) ∷ []

unfoldable pub all_balance_questions : List ℤ → List ℤ → ℕ → List Question
all_balance_questions case rows i = over (balance_questions case rows i) 0 (nodes_of case)
