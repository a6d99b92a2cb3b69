-- What is gathered for all stations in one pass over a step's arcs.
use Rattle.std.specs.Prelude.{◌≡◌, false, ◌&&◌, cond, List, ℕ, ◌+◌, ◌^◌, eqb, leb, ℤ, pos, length, Option, Some, None, bit_and, bit_or}
use Rattle.numbers.specs.law.Signed.{pos_part}
use Rattle.numbers.specs.law.Sums.{sum, only, only_n}
use Rattle.case.specs.law.Extents.{node_capacity}
use Rattle.case.specs.law.Layout.{nodes_of, arcs_of}
use Rattle.case.specs.law.Records.{arc_of, artificial_of}
use Rattle.case.specs.law.LayoutOf.{Holds}
use Rattle.plan.specs.declared.passes.Gathered.{Gathered}
use Rattle.plan.specs.law.PlanRecords.{arc_row, active_in}
use Rattle.plan.specs.law.StationRules.{active_set, machines_once, taken_by}

-- the station of an artificial arc, and none of any other arc
unfoldable pub own_station : List ℤ → ℕ → Option ℕ
own_station case e = cond (leb 3 (arc_of case e).kind) (Some (artificial_of case e).station) None

-- the station's active arcs, as the pass gathers them: a number without a sign
abbrev pub active_bits : List ℤ → List ℤ → ℕ → ℕ
active_bits case rows s = pos_part (active_set case rows s)

-- the machines of arc e, as the code has them: a number without a sign
abbrev pub machines_on : List ℤ → List ℤ → ℕ → ℕ
machines_on case rows e = pos_part (arc_row case rows e).machines

-- what reads as gathered where no station is
abbrev pub no_gathered : Gathered
no_gathered = record { arcs = 0; active = 0; once = false; taken = 0 }

-- what is gathered, with arc e as one more
unfoldable pub with_arc : List ℤ → List ℤ → ℕ → Gathered → Gathered
with_arc case rows e g = record {
  arcs = g.arcs + 1;
  active = g.active + only_n (active_in case rows e) (2 ^ g.arcs);
  once = g.once && eqb (bit_and (machines_on case rows e) g.taken) 0;
  taken = bit_or g.taken (machines_on case rows e);
}

-- what is gathered of all of a station's arcs answers 30 and 31
pub record GatheredOf (case rows : List ℤ) (s : ℕ) (g : Gathered) : Type 0 where
  pub active : g.active ≡ active_bits case rows s
  pub once : g.once ≡ machines_once case rows s

-- what arc e takes from node v, if the arc is artificial
unfoldable pub artificial_part : List ℤ → List ℤ → ℕ → ℕ → ℤ
artificial_part case rows v e = only (leb 3 (arc_of case e).kind) (taken_by case rows v e)

unfoldable pub artificial_flow : List ℤ → List ℤ → ℕ → ℤ
artificial_flow case rows v = sum (arcs_of case) (artificial_part case rows v)

-- the net flows from nodes into artificial arcs, in an array
pub record FlowsPassed (case rows net : List ℤ) : Type 0 where
  pub long : length net ≡ node_capacity
  pub holds : Holds (pos 0) net (artificial_flow case rows) (nodes_of case)
