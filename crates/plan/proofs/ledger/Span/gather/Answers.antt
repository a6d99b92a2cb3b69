-- Each turn adds the step's rows, which lie in the plan's list.
use Rattle.std.proofs.Common.{arith}
use Rattle.plan.specs.inside.RegionLoop.{gathering}
use Rattle.plan.proofs.RegionTurn.{turn}
use Rattle.plan.proofs.ledger.Span.gather.Goals as goal

pub loop-i-init : goal.loop-i-init
loop-i-init c = gathering c.pressures_at.ensures

pub loop-i-preserved : goal.loop-i-preserved
loop-i-preserved c =
    let s = c.args.self.now in
    turn s.rules c.loop-i.invariant (omega (arith, s.last)) c.step_rows-rows.ensures c.with_step-g.ensures
