-- What an accepted case gives the judge of a plan: counts, sizes and rows that are there, by the laws of the case.
use Rattle.std.specs.Prelude.{◌≡◌, Bool, true, false, cond, List, ℕ, ◌+◌, ◌<◌, ◌≤◌, eqb, ℤ, pos, negsuc, nat_abs, length, Ok}
use Rattle.std.proofs.Common.{arith}
use Rattle.numbers.specs.inside.SignedParts.{ints, size}
use Rattle.numbers.specs.inside.SignedBounds.{Bounded}
use Rattle.numbers.specs.law.Question.{first_no}
use Rattle.numbers.specs.law.Sets.{subset_of}
use Rattle.case.specs.law.Layout.{nodes_of, arcs_of, stations_of, steps_of, mass_tolerance, pressure_tolerance, demand_at, arc_at, station_at}
use Rattle.case.specs.law.Records.{node_of, arc_of, pipe_of, artificial_of, station_of, direction_of, state_of}
use Rattle.case.specs.law.Field.{most_flow}
use Rattle.case.specs.law.StationFields.{first_items}
use Rattle.case.specs.law.StationArcs.{belongs, station_arcs}
use Rattle.case.specs.law.Judged.{list_questions}
use Rattle.case.specs.inside.Counts.{Counted}
use Rattle.case.specs.claims.Says.{Between}
use Rattle.case.specs.inside.Places.{same_bounds}
use Rattle.case.specs.inside.NodeRows.{demand_iff}
use Rattle.case.specs.inside.CaseRows.{four}
use Rattle.case.specs.claims.CaseRules.{CaseRules}
use Rattle.case.specs.inside.AcceptedCase as laws
use Rattle.plan.specs.law.Pipes.{duration}
use Rattle.plan.specs.inside.Sizes.{NodeSized, PipeSized, MachinesSized}
use Rattle.plan.specs.inside.Preconditions.{AcceptedCase}

-- ---- from a range to a size

sized : {low z high : ℤ} (n : ℕ) → Between low z high → nat_abs low ≤ n → nat_abs high ≤ n → Bounded z n
sized {low} {z} {high} n r h k = record { bound = omega (ints, r.least, r.most, size low, size high, size z) }

-- a number that is chosen by a test
pub cond_sized : (b : Bool) (x y : ℤ) {n : ℕ} → nat_abs x ≤ n → nat_abs y ≤ n → nat_abs (cond b x y) ≤ n
cond_sized true x y h k = h
cond_sized false x y h k = k

module _ {case : List ℤ} (c : AcceptedCase case) where
  facts : CaseRules case
  facts = laws.rules case c.yes

  pub list_yes : first_no (list_questions case) ≡ Ok tt
  list_yes = laws.list_yes case c.yes

  -- ---- the head, and times

  pub counted : Counted case
  counted = laws.counted case c.yes

  pub head_there : 6 < length case
  head_there = laws.head_there case c.yes

  pub mass_sized : Bounded (mass_tolerance case) 1000000
  mass_sized = laws.between_bounded facts.head.mass

  pub tolerance_sized : Bounded (pressure_tolerance case) 1000
  tolerance_sized = laws.between_bounded facts.head.pressure

  pub duration_sized : (i : ℕ) → i < steps_of case → Bounded (duration case i) 86400
  unfolding duration
  duration_sized i p = sized 86400 (laws.step_range case c.yes i p) (omega arith) (omega arith)

  -- ---- nodes

  module _ (v : ℕ) (p : v < nodes_of case) where
    pub node_sized : (i : ℕ) → i < steps_of case → NodeSized (node_of case v i)
    node_sized i q =
        let r = facts.nodes v p in
        let d = (demand_iff (node_of case v i) (laws.at_most r.kind)).1 (facts.demands v i p q) in
        rw (same_bounds case i) (record {
          p0 = laws.between_bounded r.p0;
          low = laws.between_bounded r.low;
          high = laws.between_bounded r.high;
          actlow = laws.between_bounded (omega (ints, r.low, r.actlow));
          acthigh = laws.between_bounded (omega (ints, r.low, r.actlow, r.acthigh, r.high));
          demand =
              let k = (node_of case v i).kind in
              let least = cond_sized (eqb k 2) (negsuc 9999999) (pos 0) {n = 10000000} (omega arith) (omega arith) in
              sized 10000000 d least (cond_sized (eqb k 1) most_flow (pos 0) (omega arith) (omega arith));
        })

    pub node_there : (i : ℕ) → i < steps_of case → demand_at case v i < length case
    node_there i q = laws.node_there case c.yes v i p q

  -- ---- arcs

  module _ (e : ℕ) (p : e < arcs_of case) where
    pub arc_there : arc_at case e + 10 < length case
    arc_there = laws.arc_there case c.yes e p

    pub from_node : (arc_of case e).from < nodes_of case
    from_node = laws.below (facts.arcs e p).from

    pub to_node : (arc_of case e).to < nodes_of case
    to_node = laws.below (facts.arcs e p).to

    pub qmax_sized : Bounded (arc_of case e).qmax 10000000
    qmax_sized = laws.between_bounded (facts.arcs e p).qmax

    pub pipe_sized : (arc_of case e).kind ≡ 2 → PipeSized (pipe_of case e)
    pipe_sized k =
        let r = ((facts.sevens e p).pipe k).0 in
        record {
          c = sized 100000000 r.c (omega arith) (omega arith);
          f = laws.between_bounded r.f;
          g = laws.between_bounded r.g;
          h = sized 200000 r.h (omega arith) (omega arith);
        }

    module _ (k : 3 ≤ (arc_of case e).kind) where
      pub station_in : (artificial_of case e).station < stations_of case
      station_in = laws.below (four (facts.sevens e p) k).station

      pub weight_in : (artificial_of case e).weight ≤ 1000000
      weight_in = laws.at_most (four (facts.sevens e p) k).weight

  -- ---- stations

  module _ (s : ℕ) (p : s < stations_of case) where
    pub direction_weight_lem : (f : ℕ) → f < (station_of case s).directions → (direction_of case s f).weight ≤ 1000000
    direction_weight_lem f q = laws.at_most (facts.directions s f p q).weight

    pub state_weight_lem : (z : ℕ) → z < (station_of case s).states → (state_of case s z).weight ≤ 1000000
    state_weight_lem z q = laws.at_most (facts.states s z p q).weight

    pub machines_sized : MachinesSized case (station_at case s)
    machines_sized = record {
      count = laws.at_most (facts.stations s p).machines;
      flow = λ m q. laws.between_bounded (facts.machines s m p q).flow;
      ratio = λ m q. sized 10000 (facts.machines s m p q).ratio (omega arith) (omega arith);
    }

    pub station_size_lem : station_arcs case s ≤ 30
    station_size_lem = (laws.sized case c.yes).each s p

    -- 17: the machines of the station's arcs are its own
    pub own_machines : (e : ℕ) → e < arcs_of case → belongs case s e ≡ true
        → subset_of (artificial_of case e).machines (first_items (station_of case s).machines) ≡ true
    own_machines e q b = laws.machines_own case c.yes s e p q b
