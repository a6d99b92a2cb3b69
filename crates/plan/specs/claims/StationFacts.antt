-- 30 to 33 as facts of numbers, both ways.
-- Assumes nothing.
use Rattle.std.specs.Prelude.{◌≡◌, true, List, ◌≢◌, ℕ, ◌*◌, ◌<◌, ℤ, pos, nat_abs, ◌-ℤ◌, ◌≤ℤ◌}
use Rattle.numbers.specs.law.Signed.{pos_part}
use Rattle.numbers.specs.inside.SignedParts.{ints, size, taken}
use Rattle.numbers.specs.law.Sets.{member_of}
use Rattle.case.specs.declared.records.Direction.{Direction}
use Rattle.case.specs.declared.records.State.{State}
use Rattle.case.specs.law.Layout.{nodes_of, arcs_of, stations_of, mass_tolerance}
use Rattle.case.specs.law.Field.{last_of}
use Rattle.case.specs.law.Records.{station_of, direction_of, state_of}
use Rattle.case.specs.law.StationArcs.{belongs, arcs_before}
use Rattle.case.specs.inside.ArcItems.{on_says, off_says}
use Rattle.case.specs.inside.AcceptedCase.{below}
use Rattle.case.specs.inside.FieldLaws.{and_first, and_second}
use Rattle.case.specs.claims.CaseRules.{FenceNode, CaseRules, Rule16}
use Rattle.case.specs.claims.Acceptance.{fence_nodes}
use Rattle.case.specs.claims.Says.{Says, Between}
use Rattle.case.specs.inside.SaysLaws.{means, then, both, choose, when, all, flag_says, ltb_says, le_says, zero_says, one_says}
use Rattle.plan.specs.law.PlanRecords.{node_row, arc_row, choice_of, active_in, direction_in, state_in}
use Rattle.plan.specs.law.Pipes.{duration}
use Rattle.plan.specs.law.StationRules.{one_of, active_set, obeyed, choice_kept, on_arc}
use Rattle.plan.specs.law.StationRules.{machines_once, station_flow, fence_node_kept, fence_kept, fence_flows_kept}
use Rattle.plan.specs.law.Balance.{outflow, inflow, net_flow, node_imbalance, node_residual, balance_kept}

-- the direction and the state that the station has in the step
abbrev pub chosen_direction : List ℤ → List ℤ → ℕ → Direction
chosen_direction case rows s = direction_of case s (direction_in case rows s)

abbrev pub chosen_state : List ℤ → List ℤ → ℕ → State
chosen_state case rows s = state_of case s (state_in case rows s)

-- "Active means setting above 0."
abbrev pub IsActive : List ℤ → List ℤ → ℕ → Type 0
IsActive case rows e = (pos 1) ≤ℤ (arc_row case rows e).setting

-- 30: "Are direction and state in range, does the state support the direction, are all on arcs active and no off arc?" Arc e is the one of the
-- station's that has `arcs_before case s e` of them before it.
pub record Rule30 (case rows : List ℤ) (s : ℕ) : Type 0 where
  pub direction : Between (pos 0) (choice_of case rows s).direction (last_of (station_of case s).directions)
  pub state : Between (pos 0) (choice_of case rows s).state (last_of (station_of case s).states)
  pub supports : member_of (chosen_state case rows s).directions (direction_in case rows s) ≡ true
  pub on : (e : ℕ) → e < arcs_of case → belongs case s e ≡ true → member_of (chosen_state case rows s).on (arcs_before case s e) ≡ true → IsActive case rows e
  pub off : (e : ℕ) → e < arcs_of case → belongs case s e ≡ true → member_of (chosen_state case rows s).off (arcs_before case s e) ≡ true
      → ¬ IsActive case rows e

one_of_says : (x : ℤ) (n : ℕ) → Says (one_of x n) (Between (pos 0) x (last_of n))
one_of_says x n =
    let t = taken (pos n) (pos 1) in
    means (both (le_says (pos 0) x) (ltb_says (pos_part x) n)) (λ h. omega (ints, t, size x)) (λ h. omega (ints, t, size x))

pub rule30_says : (case rows : List ℤ) (s : ℕ) → CaseRules case → s < stations_of case → Says (choice_kept case rows s) (Rule30 case rows s)
unfolding choice_kept obeyed active_set
rule30_says case rows s ok p =
    let c = choice_of case rows s in
    let z = chosen_state case rows s in
    let own = station_of case s in
    means (both (one_of_says c.direction own.directions) (then (one_of_says c.state own.states) (λ h.
    let q = below h in
    let named = ok.rule17_states s _ p q in
    let active = active_in case rows in
    both (flag_says (member_of z.directions (direction_in case rows s)))
    (both (on_says case s active z.on named.on) (off_says case s active z.off named.off)))))
    (λ t. record {
      direction = t.0;
      state = t.1.0;
      supports = t.1.1.0;
      on = λ e l b m. (is_active e).fact (t.1.1.1.0 e l b m);
      off = λ e l b m h. t.1.1.1.1 e l b m ((is_active e).passed h);
    })
    (λ f. (
      f.direction,
      (
        f.state,
        (
          f.supports,
          (
            λ e l b m. (is_active e).passed (f.on e l b m),
            λ e l b m h. f.off e l b m ((is_active e).fact h),
          ),
        ),
      ),
    ))
  where
    is_active : (e : ℕ) → Says (active_in case rows e) (IsActive case rows e)
    is_active e = le_says _ _

-- 31: "Is each machine on at most one arc?" No machine of the station is in the sets of two arcs of the station.
abbrev pub Rule31 : List ℤ → List ℤ → ℕ → Type 0
Rule31 case rows s = (m : ℕ) → m < (station_of case s).machines → (d e : ℕ) → d < arcs_of case → e < arcs_of case → belongs case s d ≡ true
    → belongs case s e ≡ true → member_of (arc_row case rows d).machines m ≡ true → member_of (arc_row case rows e).machines m ≡ true → d ≡ e

pub rule31_says : (case rows : List ℤ) (s : ℕ) → Says (machines_once case rows s) (Rule31 case rows s)
unfolding machines_once
rule31_says case rows s =
    means (all (λ m p. one_says (on_arc case rows s m) (arcs_of case)))
    (λ t m p d e k l a b x y. t m p d e k l (rw (a, x)) (rw (b, y)))
    (λ f m p d e k l x y. f m p d e k l (and_first _ _ x) (and_first _ _ y) (and_second (belongs case s d) _ x) (and_second (belongs case s e) _ y))

-- 32: "Net flow from each fence node into the station's artificial arcs: at or above 0 for the direction's entry nodes, at or below 0 for its exit nodes,
-- exactly 0 for fence nodes in neither set?"
pub record FenceFlow (d : Direction) (v : ℕ) (flow : ℤ) : Type 0 where
  pub entry : member_of d.entry v ≡ true → pos 0 ≤ℤ flow
  pub exit : member_of d.exit v ≡ true → flow ≤ℤ pos 0
  pub neither : member_of d.entry v ≢ true → member_of d.exit v ≢ true → flow ≡ pos 0

abbrev pub Rule32 : List ℤ → List ℤ → ℕ → Type 0
Rule32 case rows s = (v : ℕ) → v < nodes_of case → FenceNode case s v → FenceFlow (chosen_direction case rows s) v (station_flow case rows s v)

-- of one node; an accepted case has no node that is both entry and exit
fence_says : (case rows : List ℤ) (s f v : ℕ) → CaseRules case → Rule16 case s f
    → Says (fence_kept case rows s f v) (FenceNode case s v → FenceFlow (direction_of case s f) v (station_flow case rows s v))
unfolding fence_node_kept
fence_says case rows s f v ok r =
    when (fence_nodes case ok s v) (means (choose (flag_says _) (le_says _ _) (choose (flag_says _) (le_says _ _) (zero_says _)))
    (λ t. record { entry = t.0; exit = λ x. (t.1 (λ e. r.apart v e x)).0 x; neither = λ e x. (t.1 e).1 x })
    (λ g. (g.entry, λ e. (g.exit, g.neither e))))

pub rule32_says : (case rows : List ℤ) (s : ℕ) → CaseRules case → s < stations_of case → direction_in case rows s < (station_of case s).directions
    → Says (fence_flows_kept case rows s) (Rule32 case rows s)
unfolding fence_flows_kept
rule32_says case rows s ok p q =
    let f = direction_in case rows s in
    all (λ v l. fence_says case rows s f v ok (ok.rule16 s f p q))

-- 33: "Is dt × |flow out - flow in - d| ≤ E, over all arcs (a pipe's flow is a at from and b at to, any other arc's a - b at both)?"
abbrev pub Rule33 : List ℤ → List ℤ → ℕ → ℕ → Type 0
Rule33 case rows i v = (pos (nat_abs (duration case i) * nat_abs (outflow case rows v -ℤ inflow case rows v -ℤ (node_row rows v).d))) ≤ℤ (mass_tolerance case)

pub rule33_says : (case rows : List ℤ) (i v : ℕ) → Says (balance_kept case rows i v) (Rule33 case rows i v)
unfolding balance_kept node_residual node_imbalance net_flow
rule33_says case rows i v = le_says _ _
