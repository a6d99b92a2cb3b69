-- All of the range of the states is every state.
use Rattle.std.proofs.Common.{rules, tests}
use Rattle.case.specs.law.Layout.{station_at}
use Rattle.case.specs.law.States.{state_kept}
use Rattle.case.proofs.Chains.{every_from_all}
use Rattle.case.proofs.rules.Laid.states_kept.Goals as goal

pub returns : goal.returns
returns c =
    let l = c.args.self.now.case.now in
    let w = state_kept l (station_at l c.args.s) c.args.own in
    let n = c.station-states.result.states in
    rw (c.station-states.ensures, c.offset.ensures) at
    (every_from_all w n _ _ c.all.result c.all.ensures.ran (λ x b q k. search (rules, tests)))
