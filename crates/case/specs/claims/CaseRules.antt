-- What an accepted case is, in plain facts of numbers and in document 01's order: a case is accepted exactly if these hold (`Acceptance.antt`).
-- Assumes nothing.
use Rattle.std.specs.Prelude.{◌≡◌, Bool, true, List, ◌⊎◌, ℕ, ◌+◌, ◌≤◌, ◌<◌, ℤ, pos, negsuc, ◌+ℤ◌, length}
use Rattle.numbers.specs.law.Sets.{member_of}
use Rattle.case.specs.declared.records.Node.{Node}
use Rattle.case.specs.declared.records.Pipe.{Pipe}
use Rattle.case.specs.declared.records.Machine.{Machine}
use Rattle.case.specs.law.Layout.{edition_at, node_count_at, arc_count_at, station_count_at, step_count_at, node_kind_at, arc_kind_at, from_at, to_at, seven_at}
use Rattle.case.specs.law.Layout.{arc_station_at, bothways_at, arc_weight_at, start_activity_at, most_machines_at}
use Rattle.case.specs.law.Layout.{direction_count_at, state_count_at, machine_count_at, start_direction_at}
use Rattle.case.specs.law.Layout.{start_state_at, direction_weight_at, state_weight_at}
use Rattle.case.specs.law.Layout.{number_at, nodes_of, arcs_of, stations_of, steps_of, mass_tolerance, pressure_tolerance, node_at, arc_at, station_at}
use Rattle.case.specs.law.Layout.{direction_at, state_at, case_end}
use Rattle.case.specs.law.Records.{time_of, time_before, node_of, arc_of, pipe_of, artificial_of, station_of, direction_of, state_of, machine_row}
use Rattle.case.specs.law.Field.{last_of, most_pressure, most_flow, most_weight}
use Rattle.case.specs.law.StationFields.{first_items}
use Rattle.case.specs.law.StationArcs.{belongs, arcs_before, station_arcs}
use Rattle.case.specs.law.StationNodes.{plain}
use Rattle.case.specs.claims.Says.{Between}

-- ---- Counts, indices, kinds and weights as they stand in the list: signed. The records have them as naturals, with 0 for a negative number.

abbrev pub head_numbers : List ℤ → record { edition : ℤ; nodes : ℤ; arcs : ℤ; stations : ℤ; steps : ℤ }
head_numbers case = record {
  edition = number_at case edition_at;
  nodes = number_at case node_count_at;
  arcs = number_at case arc_count_at;
  stations = number_at case station_count_at;
  steps = number_at case step_count_at;
}

abbrev pub node_kind : List ℤ → ℕ → ℤ
node_kind case v = number_at case (node_kind_at (node_at case v))

abbrev pub arc_numbers : List ℤ → ℕ → record { kind : ℤ; from : ℤ; to : ℤ }
arc_numbers case e = record {
  kind = number_at case (arc_kind_at (arc_at case e));
  from = number_at case (from_at (arc_at case e));
  to = number_at case (to_at (arc_at case e));
}

-- the j-th of an arc's seven, j from 0 to 6
abbrev pub further : List ℤ → ℕ → ℕ → ℤ
further case e j = number_at case (seven_at (arc_at case e) + j)

abbrev pub artificial_numbers : List ℤ → ℕ → record { station : ℤ; bothways : ℤ; weight : ℤ; active : ℤ; most : ℤ }
artificial_numbers case e = record {
  station = number_at case (arc_station_at (arc_at case e));
  bothways = number_at case (bothways_at (arc_at case e));
  weight = number_at case (arc_weight_at (arc_at case e));
  active = number_at case (start_activity_at (arc_at case e));
  most = number_at case (most_machines_at (arc_at case e));
}

abbrev pub station_numbers : List ℤ → ℕ → record { directions : ℤ; states : ℤ; machines : ℤ; direction : ℤ; state : ℤ }
station_numbers case s = record {
  directions = number_at case (direction_count_at (station_at case s));
  states = number_at case (state_count_at (station_at case s));
  machines = number_at case (machine_count_at (station_at case s));
  direction = number_at case (start_direction_at (station_at case s));
  state = number_at case (start_state_at (station_at case s));
}

abbrev pub direction_weight : List ℤ → ℕ → ℕ → ℤ
direction_weight case s f = number_at case (direction_weight_at (direction_at case (station_at case s) f))

abbrev pub state_weight : List ℤ → ℕ → ℕ → ℤ
state_weight case s z = number_at case (state_weight_at (state_at case (station_at case s) z))

-- ---- 10, 11: every field is there (`ends` below) and in its range. `Between low z high` is low ≤ z ≤ high, `last_of n` is n - 1, `first_items n` is 2^n - 1.

-- "Head, 7 fields: edition 1; N nodes 1..60; A arcs 0..120; S stations 0..8; k steps 1..48; E mass tolerance 0..1,000,000; H pressure tolerance 0..1,000."
pub record CaseHead (case : List ℤ) : Type 0 where
  pub edition : (head_numbers case).edition ≡ pos 1
  pub nodes : Between (pos 1) (head_numbers case).nodes (pos 60)
  pub arcs : Between (pos 0) (head_numbers case).arcs (pos 120)
  pub stations : Between (pos 0) (head_numbers case).stations (pos 8)
  pub steps : Between (pos 1) (head_numbers case).steps (pos 48)
  pub mass : Between (pos 0) (mass_tolerance case) (pos 1000000)
  pub pressure : Between (pos 0) (pressure_tolerance case) (pos 1000)

-- "Then k times in seconds; time 0 is 0, each is 1..86,400 above the one before."
abbrev pub TimeKept : List ℤ → ℕ → Type 0
TimeKept case i = Between (time_before case i +ℤ pos 1) (time_of case i) (time_before case i +ℤ pos 86400)

-- "Node row: kind (0 inner, 1 source, 2 sink); p0, low, high, actlow, acthigh, each 0..200,000 with low ≤ actlow ≤ acthigh ≤ high (p0 is free of these)".
-- A node's record is of one step; its first six fields are the same in each.
pub record CaseNode (case : List ℤ) (v : ℕ) : Type 0 where
  pub kind : Between (pos 0) (node_kind case v) (pos 2)
  pub p0 : Between (pos 0) (node_of case v 0).p0 most_pressure
  pub low : Between (pos 0) (node_of case v 0).low most_pressure
  pub high : Between (pos 0) (node_of case v 0).high most_pressure
  pub actlow : Between (node_of case v 0).low (node_of case v 0).actlow most_pressure
  pub acthigh : Between (node_of case v 0).actlow (node_of case v 0).acthigh (node_of case v 0).high

-- "then k demands D: inner 0, source 0..10,000,000, sink -10,000,000..0"
pub record CaseDemand (n : Node) : Type 0 where
  pub inner : n.kind ≡ 0 → n.demand ≡ pos 0
  pub source : n.kind ≡ 1 → Between (pos 0) n.demand most_flow
  pub sink : n.kind ≡ 2 → Between (negsuc 9999999) n.demand (pos 0)

-- "Arc row, 11 fields: kind, from and to (each 0..N-1), qmax 0..10,000,000, then seven more. Kinds: 0 valve, 1 regulator, 2 pipe, 3 shortcut, 4 regulating,
-- 5 compressor, 6 combined."
pub record CaseArc (case : List ℤ) (e : ℕ) : Type 0 where
  pub kind : Between (pos 0) (arc_numbers case e).kind (pos 6)
  pub from : Between (pos 0) (arc_numbers case e).from (last_of (nodes_of case))
  pub to : Between (pos 0) (arc_numbers case e).to (last_of (nodes_of case))
  pub qmax : Between (pos 0) (arc_of case e).qmax most_flow

-- "c 1..100,000,000 (g per mbar); f and g 0..10,000,000 (millionths of a mbar per g/s, friction at from and to); h -200,000..200,000 (slope, millionths)"
pub record CasePipe (p : Pipe) : Type 0 where
  pub c : Between (pos 1) p.c (pos 100000000)
  pub f : Between (pos 0) p.f (pos 10000000)
  pub g : Between (pos 0) p.g (pos 10000000)
  pub h : Between (negsuc 199999) p.h (pos 200000)

-- "station 0..S-1; both-ways 0 or 1 (shortcut: 1); weight 0..1,000,000; active at step 0, 0 or 1"
pub record CaseArtificial (case : List ℤ) (e : ℕ) : Type 0 where
  pub station : Between (pos 0) (artificial_numbers case e).station (last_of (stations_of case))
  pub both_ways : Between (pos 0) (artificial_numbers case e).bothways (pos 1)
  pub shortcut : (arc_of case e).kind ≡ 3 → (artificial_numbers case e).bothways ≡ pos 1
  pub weight : Between (pos 0) (artificial_numbers case e).weight most_weight
  pub active : Between (pos 0) (artificial_numbers case e).active (pos 1)

-- "machine set 0..4,095; most machines 0..12; out bound 0..200,000"
pub record CaseCompressor (case : List ℤ) (e : ℕ) : Type 0 where
  pub machines : Between (pos 0) (artificial_of case e).machines (pos 4095)
  pub most : Between (pos 0) (artificial_numbers case e).most (pos 12)
  pub outbound : Between (pos 0) (artificial_of case e).outbound most_pressure

-- n zeros from the i-th of the seven on
abbrev pub Zeros : List ℤ → ℕ → ℕ → ℕ → Type 0
Zeros case e i n = (j : ℕ) → j < n → further case e (i + j) ≡ pos 0

-- the arc's seven, by its kind
pub record CaseSeven (case : List ℤ) (e : ℕ) : Type 0 where
  -- "0, 1: zeros"
  pub zeros : (arc_of case e).kind ≤ 1 → Zeros case e 0 7
  -- "2: c ..; three zeros"
  pub pipe : (arc_of case e).kind ≡ 2 → CasePipe (pipe_of case e) × Zeros case e 4 3
  -- "3, 4: station ..; three zeros"
  pub artificial : 3 ≤ (arc_of case e).kind → (arc_of case e).kind ≤ 4 → CaseArtificial case e × Zeros case e 4 3
  -- "5, 6: the same four; machine set .."
  pub compressor : 5 ≤ (arc_of case e).kind → CaseArtificial case e × CaseCompressor case e

-- "Station (each with all its rows before the following one): directions F 1..8, states Z 1..16, machines M 0..12, direction at step 0 (0..F-1),
-- state at step 0 (0..Z-1)."
pub record CaseStation (case : List ℤ) (s : ℕ) : Type 0 where
  pub directions : Between (pos 1) (station_numbers case s).directions (pos 8)
  pub states : Between (pos 1) (station_numbers case s).states (pos 16)
  pub machines : Between (pos 0) (station_numbers case s).machines (pos 12)
  pub direction : Between (pos 0) (station_numbers case s).direction (last_of (station_of case s).directions)
  pub state : Between (pos 0) (station_numbers case s).state (last_of (station_of case s).states)

-- "F rows: entry set, exit set (0..2^60-1), weight"
pub record CaseDirection (case : List ℤ) (s f : ℕ) : Type 0 where
  pub entry : Between (pos 0) (direction_of case s f).entry (first_items 60)
  pub exit : Between (pos 0) (direction_of case s f).exit (first_items 60)
  pub weight : Between (pos 0) (direction_weight case s f) most_weight

-- "Z rows: direction set 0..2^F-1, on set, off set (0..2^30-1, bit j the station's j-th artificial arc in arc order), weight"
pub record CaseState (case : List ℤ) (s z : ℕ) : Type 0 where
  pub directions : Between (pos 0) (state_of case s z).directions (first_items (station_of case s).directions)
  pub on : Between (pos 0) (state_of case s z).on (first_items 30)
  pub off : Between (pos 0) (state_of case s z).off (first_items 30)
  pub weight : Between (pos 0) (state_weight case s z) most_weight

abbrev pub machine_of : List ℤ → ℕ → ℕ → Machine
machine_of case s m = machine_row case (station_at case s) m

-- "M rows: flow Q 0..10,000,000, ratio R 1,001..10,000 (thousandths)"
pub record CaseMachine (m : Machine) : Type 0 where
  pub flow : Between (pos 0) m.flow most_flow
  pub ratio : Between (pos 1001) m.ratio (pos 10000)

-- ---- 13 to 17

-- an arc of the first n that w names and that v ends
pub record Ends (case : List ℤ) (w : ℕ → Bool) (n v : ℕ) : Type 0 where
  pub arc : ℕ
  pub early : arc < n
  pub named : w arc ≡ true
  pub ends : ((arc_of case arc).from ≡ v) ⊎ ((arc_of case arc).to ≡ v)

-- "A station's nodes are the ends of its artificial arcs."
abbrev pub InStation : List ℤ → ℕ → ℕ → Type 0
InStation case s v = Ends case (belongs case s) (arcs_of case) v

-- "Its fence nodes are those that also end an arc of kind 0 to 2."
pub record FenceNode (case : List ℤ) (s v : ℕ) : Type 0 where
  pub inside : InStation case s v
  pub outside : Ends case (plain case) (arcs_of case) v

-- 16: "Does each direction's entry and exit set share no node and hold only its fence nodes?"
pub record Rule16 (case : List ℤ) (s f : ℕ) : Type 0 where
  pub apart : (v : ℕ) → member_of (direction_of case s f).entry v ≡ true → member_of (direction_of case s f).exit v ≡ true → ⊥
  pub entry : (v : ℕ) → member_of (direction_of case s f).entry v ≡ true → FenceNode case s v
  pub exit : (v : ℕ) → member_of (direction_of case s f).exit v ≡ true → FenceNode case s v

-- 17, one state: "Do on and off share nothing and name only its arcs": bit j is the station's j-th arc, of `station_arcs` arcs
pub record Rule17State (case : List ℤ) (s z : ℕ) : Type 0 where
  pub apart : (j : ℕ) → member_of (state_of case s z).on j ≡ true → member_of (state_of case s z).off j ≡ true → ⊥
  pub on : (j : ℕ) → member_of (state_of case s z).on j ≡ true → j < station_arcs case s
  pub off : (j : ℕ) → member_of (state_of case s z).off j ≡ true → j < station_arcs case s

-- 17, one of the station's arcs: "do its arcs' machine sets name only its machines, and does activity at step 0 obey the step-0 state?" Its bit in on and off
-- is how many of the station's arcs stand before it (`arcs_before`).
pub record Rule17Arc (case : List ℤ) (s e : ℕ) : Type 0 where
  pub machines : (m : ℕ) → member_of (artificial_of case e).machines m ≡ true → m < (station_of case s).machines
  pub on : member_of (state_of case s (station_of case s).state).on (arcs_before case s e) ≡ true → (artificial_of case e).active ≡ 1
  pub off : member_of (state_of case s (station_of case s).state).off (arcs_before case s e) ≡ true → (artificial_of case e).active ≡ 0

-- ---- a case

pub record CaseRules (case : List ℤ) : Type 0 where
  pub head : CaseHead case
  pub times : (i : ℕ) → i < steps_of case → TimeKept case i
  pub nodes : (v : ℕ) → v < nodes_of case → CaseNode case v
  pub demands : (v i : ℕ) → v < nodes_of case → i < steps_of case → CaseDemand (node_of case v i)
  pub arcs : (e : ℕ) → e < arcs_of case → CaseArc case e
  pub sevens : (e : ℕ) → e < arcs_of case → CaseSeven case e
  pub stations : (s : ℕ) → s < stations_of case → CaseStation case s
  pub directions : (s f : ℕ) → s < stations_of case → f < (station_of case s).directions → CaseDirection case s f
  pub states : (s z : ℕ) → s < stations_of case → z < (station_of case s).states → CaseState case s z
  pub machines : (s m : ℕ) → s < stations_of case → m < (station_of case s).machines → CaseMachine (machine_of case s m)
  -- 10 and 12: every field is there and nothing is left over; `case_end` is the index past the last field
  pub ends : length case ≡ case_end case
  -- "13 Do the arc's ends differ?"
  pub rule13 : (e : ℕ) → e < arcs_of case → (arc_of case e).from ≡ (arc_of case e).to → ⊥
  -- "14 Is the node in at most one station?"
  pub rule14 : (v s t : ℕ) → v < nodes_of case → s < stations_of case → t < stations_of case → InStation case s v → InStation case t v → s ≡ t
  -- "15 Has the station at most 30 artificial arcs?"
  pub rule15 : (s : ℕ) → s < stations_of case → station_arcs case s ≤ 30
  pub rule16 : (s f : ℕ) → s < stations_of case → f < (station_of case s).directions → Rule16 case s f
  pub rule17_states : (s z : ℕ) → s < stations_of case → z < (station_of case s).states → Rule17State case s z
  pub rule17_arcs : (s e : ℕ) → s < stations_of case → e < arcs_of case → belongs case s e ≡ true → Rule17Arc case s e
