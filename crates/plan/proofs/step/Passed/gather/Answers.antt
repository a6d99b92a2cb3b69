-- A station's arc is one more of what is gathered of it; an arc of no station changes nothing.
use Rattle.plan.proofs.Common.{◌<◌, ◌∙◌, sym, arith}
use Rattle.case.specs.law.Layout.{arcs_of}
use Rattle.plan.proofs.StationPasses.{all_none, all_same, all_more, room, fits, all_last}
use Rattle.plan.proofs.step.Passed.gather.Goals as goal
use Rattle.plan.proofs.step.Passed.gather.Goals.{in-Some, in_default}

pub loop-e-init : goal.loop-e-init
loop-e-init c = all_none c.args.self.now.step.case.list.now c.args.self.now.step.rows.now

pub with_arc-requires : goal.with_arc-requires
with_arc-requires c =
    let l : c.loop-e.e < arcs_of c.args.self.now.step.case.list.now = omega (arith, c.args.self.now.step.case.laid.arcs) in
    let y = sym c.own_station.ensures ∙ c.in-Some.is in
    let h = c.loop-e.invariant in
    (l, room h c.args.self.now.step.case.yes l y, fits h c.args.self.now.step.case.yes l y)

pub loop-e-preserved : goal.loop-e-preserved
loop-e-preserved c =
    let l : c.loop-e.e < arcs_of c.args.self.now.step.case.list.now = omega (arith, c.args.self.now.step.case.laid.arcs) in
    elim c.match-own_station.branch [
      | in-Some w ↦
          let y = sym c.own_station.ensures ∙ w.in-Some.is in
          rw w.stations-is (all_more c.loop-e.invariant c.args.self.now.step.case.yes l y c.args.self.now.machines w.with_arc.ensures)
      | in_default w ↦ rw w.stations-is (all_same c.loop-e.invariant (sym c.own_station.ensures ∙ w.in_default.is))
    ]

pub returns : goal.returns
returns c = all_last c.loop-e.invariant c.args.self.now.step.case.yes (omega (arith, c.args.self.now.step.case.laid.arcs))
