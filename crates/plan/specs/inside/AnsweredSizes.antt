-- What a step's questions give once they have been answered yes: sizes, by which no later sum or product is too large.
use Rattle.std.specs.Prelude.{◌≡◌, Bool, cond, not, ◌&&◌, ◌||◌, List, ◌++◌, ℕ, ◌+◌, ◌<◌, ◌≤◌, eqb, leb, ltb, ℤ, pos, negsuc, nat_abs, ◌-ℤ◌, Ok}
use Rattle.std.proofs.Math.Bool.{true, false}
use native.Mathlib.Omega.{arith}
use Rattle.std.proofs.Common.{ltb-true}
use Rattle.std.specs.Int.Signed.{le_z}
use Rattle.numbers.specs.law.Signed.{pos_part}
use Rattle.numbers.specs.inside.SignedParts.{ints, size, taken}
use Rattle.numbers.specs.inside.SignedBounds.{Bounded}
use Rattle.numbers.specs.law.Sums.{only_n}
use Rattle.numbers.specs.law.Question.{first_no}
use Rattle.numbers.specs.inside.QuestionLaws.{all_yes}
use Rattle.case.specs.declared.records.Node.{Node}
use Rattle.case.specs.declared.records.Arc.{Arc}
use Rattle.case.specs.law.Layout.{number_at, nodes_of, arcs_of, stations_of, steps_of, mass_tolerance}
use Rattle.case.specs.law.Records.{node_of, arc_of, artificial_of, station_of}
use Rattle.case.specs.law.Field.{most_flow}
use Rattle.case.specs.inside.FieldLaws.{first_yes, second_yes, item_yes, and_first, and_second}
use Rattle.plan.specs.declared.rows.NodeRow.{NodeRow}
use Rattle.plan.specs.declared.rows.ArcRow.{ArcRow}
use Rattle.plan.specs.law.Compared.{within, is_zero}
use Rattle.plan.specs.law.PlanRecords.{node_row, arc_row, choice_of, pressure_in}
use Rattle.plan.specs.law.Setting.{setting_of}
use Rattle.plan.specs.law.NodeRules.{slack_limit, slacks_kept, boundary_flow_kept, node_numbers_kept, node_questions, all_node_questions}
use Rattle.plan.specs.law.ArcFlows.{least_flow, most_backward, flows_kept, machines_within, setting_allowed, arc_numbers_kept}
use Rattle.plan.specs.law.Pipes.{is_pipe, pipe_residual, pipe_mass_kept}
use Rattle.plan.specs.law.ArcRules.{flow_questions, pressure_questions, pipe_questions, arc_questions, all_arc_questions}
use Rattle.plan.specs.law.StationRules.{one_of, choice_kept, station_questions, all_station_questions}
use Rattle.plan.specs.law.Balance.{node_residual, balance_kept, balance_questions, all_balance_questions}
use Rattle.plan.specs.law.Step.{step_questions}
use Rattle.plan.specs.law.Totals.{pipe_part}
use Rattle.plan.specs.inside.Sizes.{NodeSized, NodeRowSized, NodesSized, PressuresSized, ArcRowSized, FlowsSized}
use Rattle.plan.specs.inside.Preconditions.{AcceptedCase, MachinesKept, ChoicesKept, StepKept}
use Rattle.plan.specs.inside.CaseSizes.{cond_sized, node_sized, qmax_sized, mass_sized}

within_sized : (low x high : ℤ) (n : ℕ) → within low x high ≡ true → nat_abs low ≤ n → nat_abs high ≤ n → Bounded x n
within_sized low x high n e h k =
    let a : le_z low x ≡ true = and_first (le_z low x) (le_z x high) e in
    let b : le_z x high ≡ true = and_second (le_z low x) (le_z x high) e in
    record { bound = omega (ints, size low, size high, size x) }

-- ---- 21

slack_limit_lem : (kind : ℕ) (limit : ℤ) {n : ℕ} → nat_abs limit ≤ n → nat_abs (slack_limit kind limit) ≤ n
slack_limit_lem kind limit h = cond_sized (eqb kind 0) (pos 0) limit (omega arith) h

difference : {x y : ℤ} {m n : ℕ} → Bounded x m → Bounded y n → nat_abs (x -ℤ y) ≤ m + n
difference {x} {y} h k = omega (arith, taken x y, size x, size y, size (x -ℤ y), h.bound, k.bound)

boundary_sized : (kind : ℕ) (d : ℤ) → boundary_flow_kept kind d ≡ true → Bounded d 10000000
unfolding boundary_flow_kept
boundary_sized kind d e = go (eqb kind 1) (eqb kind 2) e
  where
    go : (source sink : Bool) → cond source (within (pos 0) d most_flow) (cond sink (within (negsuc 9999999) d (pos 0)) (is_zero d)) ≡ true → Bounded d 10000000
    go true sink e = within_sized (pos 0) d most_flow 10000000 e (omega arith) (omega arith)
    go false true e = within_sized (negsuc 9999999) d (pos 0) 10000000 e (omega arith) (omega arith)
    go false false e =
        let most = and_first (le_z d (pos 0)) (le_z (pos 0) d) e in
        let least = and_second (le_z d (pos 0)) (le_z (pos 0) d) e in
        record { bound = omega (ints, most, least, size d) }

pub numbers_sized : (n : Node) (r : NodeRow) → NodeSized n → node_numbers_kept n r ≡ true → NodeRowSized r
unfolding node_numbers_kept slacks_kept
numbers_sized n r z e =
    let flow = slack_limit n.kind most_flow in
    let above = slack_limit n.kind (n.actlow -ℤ n.low) in
    let below = slack_limit n.kind (n.high -ℤ n.acthigh) in
    let few : nat_abs flow ≤ 10000000 = slack_limit_lem n.kind most_flow (omega arith) in
    let w1 = within n.low r.p n.high in
    let w2 = boundary_flow_kept n.kind r.d in
    let w3 = within (pos 0) r.splus flow in
    let w4 = within (pos 0) r.sminus flow in
    let w5 = within (pos 0) r.uplus above in
    let w6 = within (pos 0) r.uminus below in
    let e2 = and_second w1 (w2 && (w3 && (w4 && (w5 && w6)))) e in
    let e3 = and_second w2 (w3 && (w4 && (w5 && w6))) e2 in
    let e4 = and_second w3 (w4 && (w5 && w6)) e3 in
    let e5 = and_second w4 (w5 && w6) e4 in
    record {
      p = within_sized n.low r.p n.high 200000 (and_first w1 _ e) z.low.bound z.high.bound;
      d = boundary_sized n.kind r.d (and_first w2 _ e2);
      splus = within_sized (pos 0) r.splus flow 10000000 (and_first w3 _ e3) (omega arith) few;
      sminus = within_sized (pos 0) r.sminus flow 10000000 (and_first w4 _ e4) (omega arith) few;
      uplus = within_sized (pos 0) r.uplus above 400000 (and_first w5 _ e5) (omega arith) (slack_limit_lem n.kind _ (difference z.actlow z.low));
      uminus = within_sized (pos 0) r.uminus below 400000 (and_second w5 w6 e5) (omega arith) (slack_limit_lem n.kind _ (difference z.high z.acthigh));
    }

pub nodes_sized : (case rows : List ℤ) (i : ℕ) → AcceptedCase case → i < steps_of case → first_no (all_node_questions case rows i) ≡ Ok tt
    → NodesSized case rows
unfolding all_node_questions node_questions
nodes_sized case rows i c p e = record {
  each = λ v q.
      let y = item_yes (node_questions case rows i) (nodes_of case) e v q in
      numbers_sized (node_of case v i) (node_row rows v) (node_sized c v q i p) (all_yes (node_questions case rows i v) y).0;
}

pub pressures_sized : {case rows : List ℤ} → NodesSized case rows → PressuresSized (pressure_in rows) (nodes_of case)
pressures_sized n = record { each = λ v q. (n.each v q).p }

-- ---- 24

pub flows_kept_sized : (c : Arc) (r : ArcRow) → Bounded c.qmax 10000000 → flows_kept c r ≡ true → ArcRowSized r
unfolding flows_kept
flows_kept_sized c r q e =
    let back = pos 0 -ℤ c.qmax in
    let few : nat_abs back ≤ 10000000 = omega (arith, taken (pos 0) c.qmax, size c.qmax, size back, q.bound) in
    let least : nat_abs (least_flow c) ≤ 10000000 = cond_sized (eqb c.kind 2) back (pos 0) few (omega arith) in
    let most = cond_sized (eqb c.kind 1) (pos 0) c.qmax (omega arith) q.bound in
    let w1 = within (least_flow c) r.a c.qmax in
    let w2 = within (least_flow c) r.b (most_backward c) in
    record {
      a = within_sized (least_flow c) r.a c.qmax 10000000 (and_first w1 w2 e) least q.bound;
      b = within_sized (least_flow c) r.b (most_backward c) 10000000 (and_second w1 w2 e) least most;
    }

small : (n : ℕ) (z : ℤ) → le_z (pos n) z ≡ true → Bounded z 1000000 → n ≤ 1000000
small n z e b = omega (ints, size z, b.bound)

module _ (case : List ℤ) (old : ℕ → ℤ) (rows : List ℤ) (i : ℕ) where
  -- the groups of an arc's questions
  pub flow_yes : (e : ℕ) → first_no (arc_questions case old rows i e) ≡ Ok tt → first_no (flow_questions case rows i e) ≡ Ok tt
  unfolding arc_questions
  flow_yes e y = first_yes (flow_questions case rows i e) (pressure_questions case rows i e ++ pipe_questions case old rows i e) y

  pub pipe_yes : (e : ℕ) → first_no (arc_questions case old rows i e) ≡ Ok tt → first_no (pipe_questions case old rows i e) ≡ Ok tt
  unfolding arc_questions
  pipe_yes e y =
      second_yes (pressure_questions case rows i e) (pipe_questions case old rows i e)
      (second_yes (flow_questions case rows i e) (pressure_questions case rows i e ++ pipe_questions case old rows i e) y)

  pub arc_numbers_lem : (e : ℕ) → first_no (flow_questions case rows i e) ≡ Ok tt
      → arc_numbers_kept (arc_of case e) (artificial_of case e) (arc_row case rows e) ≡ true
  unfolding flow_questions
  arc_numbers_lem e y = (all_yes (flow_questions case rows i e) y).0

  pub arc_sized : AcceptedCase case → (e : ℕ) → e < arcs_of case → first_no (flow_questions case rows i e) ≡ Ok tt → ArcRowSized (arc_row case rows e)
  unfolding arc_numbers_kept
  arc_sized c e q y =
      let r = arc_row case rows e in
      flows_kept_sized (arc_of case e) r (qmax_sized c e q) (and_first (flows_kept (arc_of case e) r) _ (arc_numbers_lem e y))

  pub flows_sized : AcceptedCase case → first_no (all_arc_questions case old rows i) ≡ Ok tt → FlowsSized case rows
  unfolding all_arc_questions
  flows_sized c y = record { each = λ e q. arc_sized c e q (flow_yes e (item_yes (arc_questions case old rows i) (arcs_of case) y e q)) }

  pub machines_kept_lem : first_no (all_arc_questions case old rows i) ≡ Ok tt → MachinesKept case rows
  unfolding all_arc_questions arc_numbers_kept
  machines_kept_lem y = record {
    each = λ e q.
        let x = artificial_of case e in
        let r = arc_row case rows e in
        let k = (arc_of case e).kind in
        let s = setting_allowed (leb 1 x.bothways) (setting_of k r.setting) in
        let w = machines_within k x.machines r.machines in
        let h = arc_numbers_lem e (flow_yes e (item_yes (arc_questions case old rows i) (arcs_of case) y e q)) in
        and_second s w (and_second (flows_kept (arc_of case e) r) (s && w) h);
  }

  -- ---- 28

  pub pipe_small : AcceptedCase case → first_no (all_arc_questions case old rows i) ≡ Ok tt → (e : ℕ) → e < arcs_of case → pipe_part case old rows i e ≤ 1000000
  unfolding all_arc_questions pipe_questions pipe_mass_kept pipe_part
  pipe_small c y e q =
      let k = (all_yes (pipe_questions case old rows i e) (pipe_yes e (item_yes (arc_questions case old rows i) (arcs_of case) y e q))).0 in
      go (is_pipe case e) k
    where
      go : (b : Bool) → (not b || le_z (pos (pipe_residual case old rows i e)) (mass_tolerance case)) ≡ true
          → only_n b (pipe_residual case old rows i e) ≤ 1000000
      go true k = small (pipe_residual case old rows i e) (mass_tolerance case) k (mass_sized c)
      go false k = omega arith

-- ---- 30

one_of_lem : (x : ℤ) (n : ℕ) → one_of x n ≡ true → pos_part x < n
one_of_lem x n e = ltb-true (pos_part x) n (and_second (le_z (pos 0) x) (ltb (pos_part x) n) e)

module _ (case rows : List ℤ) (i : ℕ) where
  choice_kept_lem : first_no (all_station_questions case rows i) ≡ Ok tt → (s : ℕ) → s < stations_of case → choice_kept case rows s ≡ true
  unfolding all_station_questions station_questions
  choice_kept_lem y s q = (all_yes (station_questions case rows i s) (item_yes (station_questions case rows i) (stations_of case) y s q)).0

  pub choices_kept : first_no (all_station_questions case rows i) ≡ Ok tt → ChoicesKept case rows
  unfolding choice_kept
  choices_kept y = record {
    direction = λ s q. one_of_lem (choice_of case rows s).direction (station_of case s).directions (and_first _ _ (choice_kept_lem y s q));
    state = λ s q.
        let d = one_of (choice_of case rows s).direction (station_of case s).directions in
        one_of_lem (choice_of case rows s).state (station_of case s).states (and_first _ _ (and_second d _ (choice_kept_lem y s q)));
  }

  -- ---- 33

  pub node_small : AcceptedCase case → first_no (all_balance_questions case rows i) ≡ Ok tt
      → (v : ℕ) → v < nodes_of case → node_residual case rows i v ≤ 1000000
  unfolding all_balance_questions balance_questions balance_kept
  node_small c y v q =
      let k = (all_yes (balance_questions case rows i v) (item_yes (balance_questions case rows i) (nodes_of case) y v q)).0 in
      small (node_residual case rows i v) (mass_tolerance case) k (mass_sized c)

-- ---- a whole step

module _ (case : List ℤ) (old : ℕ → ℤ) (rows : List ℤ) (i : ℕ) (y : first_no (step_questions case old rows i) ≡ Ok tt) where
  pub nodes_yes : first_no (all_node_questions case rows i) ≡ Ok tt
  unfolding step_questions
  nodes_yes = first_yes (all_node_questions case rows i) _ y

  past_nodes : first_no (all_arc_questions case old rows i ++ (all_station_questions case rows i ++ all_balance_questions case rows i)) ≡ Ok tt
  unfolding step_questions
  past_nodes = second_yes (all_node_questions case rows i) _ y

  pub arcs_yes : first_no (all_arc_questions case old rows i) ≡ Ok tt
  arcs_yes = first_yes (all_arc_questions case old rows i) _ past_nodes

  past_arcs : first_no (all_station_questions case rows i ++ all_balance_questions case rows i) ≡ Ok tt
  past_arcs = second_yes (all_arc_questions case old rows i) _ past_nodes

  pub stations_yes : first_no (all_station_questions case rows i) ≡ Ok tt
  stations_yes = first_yes (all_station_questions case rows i) (all_balance_questions case rows i) past_arcs

  pub balances_yes : first_no (all_balance_questions case rows i) ≡ Ok tt
  balances_yes = second_yes (all_station_questions case rows i) (all_balance_questions case rows i) past_arcs

pub step_kept : (case old rows : List ℤ) (i : ℕ) → AcceptedCase case → i < steps_of case → PressuresSized (number_at old) (nodes_of case)
    → first_no (step_questions case (number_at old) rows i) ≡ Ok tt → StepKept case old rows i
step_kept case old rows i c p z y =
    let p0 = number_at old in
    let a = arcs_yes case p0 rows i y in
    record {
      before = z;
      node_rows = nodes_sized case rows i c p (nodes_yes case p0 rows i y);
      flows = flows_sized case p0 rows i c a;
      machines = machines_kept_lem case p0 rows i a;
      choices = choices_kept case rows i (stations_yes case p0 rows i y);
      pipes = pipe_small case p0 rows i c a;
      nodes = node_small case rows i c (balances_yes case p0 rows i y);
    }
