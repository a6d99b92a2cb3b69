-- 21 to 23, of one node in one step.
-- Assumes nothing.
use Rattle.std.specs.Prelude.{Bool, cond, ◌&&◌, ◌||◌, List, [], ◌∷◌, ℕ, eqb, ℤ, pos, negsuc, ◌+ℤ◌, ◌-ℤ◌}
use Rattle.std.specs.Int.Signed.{le_z}
use Rattle.numbers.specs.law.Question.{Question}
use Rattle.numbers.specs.law.Items.{over}
use Rattle.case.specs.declared.records.Node.{Node}
use Rattle.case.specs.law.Field.{most_flow}
use Rattle.case.specs.law.Layout.{nodes_of}
use Rattle.case.specs.law.Records.{node_of}
use Rattle.plan.specs.declared.rows.NodeRow.{NodeRow}
use Rattle.plan.specs.law.Compared.{within, same, is_zero, asked}
use Rattle.plan.specs.law.PlanRecords.{node_row}

-- the upper limit of a slack: none at an inner node, where all five numbers are 0
abbrev pub slack_limit : ℕ → ℤ → ℤ
slack_limit kind limit = cond (eqb kind 0) (pos 0) limit

-- "s within 0..10,000,000; u+ within 0..actlow-low, u- within 0..high-acthigh; all five 0 at an inner node"
unfoldable pub slacks_kept : Node → NodeRow → Bool
slacks_kept n r =
    within (pos 0) r.splus (slack_limit n.kind most_flow)
    && (within (pos 0) r.sminus (slack_limit n.kind most_flow)
    && (within (pos 0) r.uplus (slack_limit n.kind (n.actlow -ℤ n.low))
    && within (pos 0) r.uminus (slack_limit n.kind (n.high -ℤ n.acthigh))))

-- "d at or above 0 at a source, at or below 0 at a sink, size at most 10,000,000", and 0 at an inner node; -10,000,000 is `negsuc 9999999`
unfoldable pub boundary_flow_kept : ℕ → ℤ → Bool
boundary_flow_kept kind d =
    cond (eqb kind 1) (within (pos 0) d most_flow)
    (cond (eqb kind 2) (within (negsuc 9999999) d (pos 0))
    (is_zero d))

-- 21: "Is p within low..high", d and the slacks in range?
unfoldable pub node_numbers_kept : Node → NodeRow → Bool
node_numbers_kept n r =
    within n.low r.p n.high
    && (boundary_flow_kept n.kind r.d
    && slacks_kept n r)

-- 22: "Is d + s+ - s- = D? (boundary only)"
unfoldable pub demand_met : Node → NodeRow → Bool
demand_met n r = eqb n.kind 0 || same (r.d +ℤ r.splus -ℤ r.sminus) n.demand

-- 23: "If D is not 0: p + u+ ≥ actlow and p - u- ≤ acthigh?"
unfoldable pub active_bounds_kept : Node → NodeRow → Bool
active_bounds_kept n r = is_zero n.demand || (le_z n.actlow (r.p +ℤ r.uplus) && le_z (r.p -ℤ r.uminus) n.acthigh)

unfoldable pub node_questions : List ℤ → List ℤ → ℕ → ℕ → List Question
node_questions case rows i v =
    asked 21 i v (node_numbers_kept (node_of case v i) (node_row rows v))
    ∷ asked 22 i v (demand_met (node_of case v i) (node_row rows v))
    ∷ asked 23 i v (active_bounds_kept (node_of case v i) (node_row rows v))
    ∷ []

unfoldable pub all_node_questions : List ℤ → List ℤ → ℕ → List Question
all_node_questions case rows i = over (node_questions case rows i) 0 (nodes_of case)
