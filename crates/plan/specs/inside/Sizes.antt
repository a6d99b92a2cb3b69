-- What the functions inside are handed: sizes that earlier questions have let pass, by which no sum or product is too large.
use Rattle.std.specs.Prelude.{List, ℕ, ◌<◌, ◌≤◌, ℤ}
use Rattle.numbers.specs.inside.SignedBounds.{Bounded}
use Rattle.case.specs.declared.records.Node.{Node}
use Rattle.case.specs.declared.records.Pipe.{Pipe}
use Rattle.case.specs.law.Layout.{nodes_of, arcs_of, machine_count}
use Rattle.case.specs.law.Records.{machine_row}
use Rattle.plan.specs.declared.rows.NodeRow.{NodeRow}
use Rattle.plan.specs.declared.rows.ArcRow.{ArcRow}
use Rattle.plan.specs.law.PlanRecords.{node_row, arc_row}

pub record NodeSized (n : Node) : Type 0 where
  pub p0 : Bounded n.p0 200000
  pub low : Bounded n.low 200000
  pub high : Bounded n.high 200000
  pub actlow : Bounded n.actlow 200000
  pub acthigh : Bounded n.acthigh 200000
  pub demand : Bounded n.demand 10000000

-- what 21 has let pass
pub record NodeRowSized (r : NodeRow) : Type 0 where
  pub p : Bounded r.p 200000
  pub d : Bounded r.d 10000000
  pub splus : Bounded r.splus 10000000
  pub sminus : Bounded r.sminus 10000000
  pub uplus : Bounded r.uplus 400000
  pub uminus : Bounded r.uminus 400000

pub record NodesSized (case rows : List ℤ) : Type 0 where
  pub each : (v : ℕ) → v < nodes_of case → NodeRowSized (node_row rows v)

-- the pressures of n nodes
pub record PressuresSized (p : ℕ → ℤ) (n : ℕ) : Type 0 where
  pub each : (v : ℕ) → v < n → Bounded (p v) 200000

-- what 24 has let pass
pub record ArcRowSized (r : ArcRow) : Type 0 where
  pub a : Bounded r.a 10000000
  pub b : Bounded r.b 10000000

pub record FlowsSized (case rows : List ℤ) : Type 0 where
  pub each : (e : ℕ) → e < arcs_of case → ArcRowSized (arc_row case rows e)

pub record PipeSized (x : Pipe) : Type 0 where
  pub c : Bounded x.c 100000000
  pub f : Bounded x.f 10000000
  pub g : Bounded x.g 10000000
  pub h : Bounded x.h 200000

-- the machines of the station whose rows begin at `offset`
pub record MachinesSized (case : List ℤ) (offset : ℕ) : Type 0 where
  pub count : machine_count case offset ≤ 12
  pub flow : (m : ℕ) → m < machine_count case offset → Bounded (machine_row case offset m).flow 10000000
  pub ratio : (m : ℕ) → m < machine_count case offset → Bounded (machine_row case offset m).ratio 10000
