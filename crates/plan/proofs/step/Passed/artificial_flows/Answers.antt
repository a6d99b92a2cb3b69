-- An artificial arc puts its flow to its two ends, and any other arc puts nothing.
use Rattle.plan.proofs.Common.{◌<◌, refl, ap, arith}
use Rattle.case.specs.law.Layout.{arcs_of}
use Rattle.case.specs.declared.records.Arc.{Arc}
use Rattle.plan.specs.inside.StationPass.{artificial_part}
use Rattle.plan.proofs.NetFlows.{gathers_none, gathers_same, gathers_more}
use Rattle.plan.proofs.NodeParts.{from_sized, to_sized}
use Rattle.plan.proofs.SignedReads.{read}
use Rattle.plan.proofs.StationParts.{artificial_part_lem, artificial_none, artificial_gathered}
use Rattle.plan.proofs.step.Passed.artificial_flows.Goals as goal
use Rattle.plan.proofs.step.Passed.artificial_flows.Goals.{then-c-ge3, else-c-ge3}

pub loop-e-init : goal.loop-e-init
loop-e-init c = record { long = refl; gathered = gathers_none (artificial_part c.args.self.now.step.case.list.now c.args.self.now.step.rows.now) }

pub loop-e-preserved : goal.loop-e-preserved
loop-e-preserved c =
    let l = c.args.self.now.step.case.list.now in
    let r = c.args.self.now.step.rows.now in
    let e = c.loop-e.e in
    let p : e < arcs_of l = omega (arith, c.args.self.now.step.case.laid.arcs) in
    let kind = ap (λ (y : Arc). y.kind) c.arc-c.ensures in
    elim c.if-c-ge3.branch [
      | then-c-ge3 w ↦
          let from = ap (λ (y : Arc). y.from) c.arc-c.ensures in
          let to = ap (λ (y : Arc). y.to) c.arc-c.ensures in
          let out = (read w.end_flows-flow.ensures.0 (from_sized c.args.self.now.flows e p) tt).val in
          let into = (read w.end_flows-flow.ensures.1 (to_sized c.args.self.now.flows e p) tt).val in
          rw w.net-is (record {
            long = w.moved.ensures.0;
            gathered = gathers_more c.loop-e.invariant.gathered _ _ _ _ w.moved.ensures.1
                (λ i. artificial_part_lem l r e i kind w.if-c-ge3.true from to out into);
          })
      | else-c-ge3 w ↦ rw w.net-is (record {
        long = c.loop-e.invariant.long;
        gathered = gathers_same c.loop-e.invariant.gathered (λ i. artificial_none l r e i kind w.if-c-ge3.false);
      })
    ]

pub returns : goal.returns
returns c = let s = c.args.self.now.step in artificial_gathered s.rows.now s.case.yes c.loop-e.invariant.gathered (omega (arith, s.case.laid.arcs))
