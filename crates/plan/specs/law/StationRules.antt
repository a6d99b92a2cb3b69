-- 30 to 32, of one station in one step.
-- Assumes nothing.
use Rattle.std.specs.Prelude.{Bool, cond, not, ◌&&◌, ◌||◌, List, [], ◌∷◌, ℕ, eqb, leb, ltb, ℤ, pos, ◌-ℤ◌}
use Rattle.std.specs.Int.Signed.{le_z}
use Rattle.numbers.specs.law.Question.{Question}
use Rattle.numbers.specs.law.Items.{over}
use Rattle.numbers.specs.law.Signed.{pos_part}
use Rattle.numbers.specs.law.Sets.{member_of, subset_of, disjoint_of}
use Rattle.numbers.specs.law.Sums.{sum, only, count}
use Rattle.case.specs.declared.records.Direction.{Direction}
use Rattle.case.specs.declared.records.State.{State}
use Rattle.case.specs.law.Layout.{nodes_of, arcs_of, stations_of}
use Rattle.case.specs.law.Records.{arc_of, station_of, direction_of, state_of}
use Rattle.case.specs.law.StationArcs.{belongs, arc_set, every}
use Rattle.case.specs.law.StationNodes.{fence_node}
use Rattle.plan.specs.law.Compared.{is_zero, asked}
use Rattle.plan.specs.law.PlanRecords.{arc_row, choice_of, active_in, direction_in, state_in}

-- ---- 30: "Are direction and state in range, does the state support the direction, are all on arcs active and no off arc?"

-- one of n items
abbrev pub one_of : ℤ → ℕ → Bool
one_of x n = le_z (pos 0) x && ltb (pos_part x) n

-- the station's arcs that are active in the step
unfoldable pub active_set : List ℤ → List ℤ → ℕ → ℤ
active_set case rows s = pos (arc_set case s (active_in case rows) (arcs_of case))

-- what a state asks of the direction f and of the active arcs
unfoldable pub obeyed : State → ℕ → ℤ → Bool
obeyed z f active = member_of z.directions f && (subset_of z.on active && disjoint_of z.off active)

abbrev pub state_obeyed : List ℤ → List ℤ → ℕ → ℕ → ℕ → Bool
state_obeyed case rows s f z = obeyed (state_of case s z) f (active_set case rows s)

unfoldable pub choice_kept : List ℤ → List ℤ → ℕ → Bool
choice_kept case rows s =
    one_of (choice_of case rows s).direction (station_of case s).directions
    && (one_of (choice_of case rows s).state (station_of case s).states
    && state_obeyed case rows s (direction_in case rows s) (state_in case rows s))

-- ---- 31: "Is each machine on at most one arc?"

-- is machine m on arc e?
abbrev pub on_arc : List ℤ → List ℤ → ℕ → ℕ → ℕ → Bool
on_arc case rows s m e = belongs case s e && member_of (arc_row case rows e).machines m

abbrev pub machine_once : List ℤ → List ℤ → ℕ → ℕ → Bool
machine_once case rows s m = leb (count (arcs_of case) (on_arc case rows s m)) 1

unfoldable pub machines_once : List ℤ → List ℤ → ℕ → Bool
machines_once case rows s = every (station_of case s).machines (machine_once case rows s)

-- ---- 32: "Net flow from each fence node into the station's artificial arcs: at or above 0 for the direction's entry nodes, at or below 0 for its exit nodes,
-- exactly 0 for fence nodes in neither set?"

-- what arc e takes from node v, where it is no pipe
abbrev pub taken_by : List ℤ → List ℤ → ℕ → ℕ → ℤ
taken_by case rows v e =
    only (eqb (arc_of case e).from v) ((arc_row case rows e).a -ℤ (arc_row case rows e).b)
    -ℤ only (eqb (arc_of case e).to v) ((arc_row case rows e).a -ℤ (arc_row case rows e).b)

-- the same of one of the station's arcs, and 0 of any other
unfoldable pub station_part : List ℤ → List ℤ → ℕ → ℕ → ℕ → ℤ
station_part case rows s v e = only (belongs case s e) (taken_by case rows v e)

unfoldable pub station_flow : List ℤ → List ℤ → ℕ → ℕ → ℤ
station_flow case rows s v = sum (arcs_of case) (station_part case rows s v)

-- at a fence node, by whether it is an entry and whether it is an exit
abbrev pub fence_flow_kept : Bool → Bool → ℤ → Bool
fence_flow_kept entry exit flow = cond entry (le_z (pos 0) flow) (cond exit (le_z flow (pos 0)) (is_zero flow))

-- at any node, where `fence` says which are fence nodes
unfoldable pub fence_node_kept : (ℕ → Bool) → Direction → ℕ → ℤ → Bool
fence_node_kept fence chosen v flow = not (fence v) || fence_flow_kept (member_of chosen.entry v) (member_of chosen.exit v) flow

abbrev pub fence_kept : List ℤ → List ℤ → ℕ → ℕ → ℕ → Bool
fence_kept case rows s f v = fence_node_kept (fence_node case s) (direction_of case s f) v (station_flow case rows s v)

unfoldable pub fence_flows_kept : List ℤ → List ℤ → ℕ → Bool
fence_flows_kept case rows s = every (nodes_of case) (fence_kept case rows s (direction_in case rows s))

-- ---- the questions

unfoldable pub station_questions : List ℤ → List ℤ → ℕ → ℕ → List Question
station_questions case rows i s =
    asked 30 i s (choice_kept case rows s)
    ∷ asked 31 i s (machines_once case rows s)
    ∷ asked 32 i s (fence_flows_kept case rows s)
    ∷ []

unfoldable pub all_station_questions : List ℤ → List ℤ → ℕ → List Question
all_station_questions case rows i = over (station_questions case rows i) 0 (stations_of case)
