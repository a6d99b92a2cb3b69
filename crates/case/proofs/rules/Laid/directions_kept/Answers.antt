-- All of the range of the directions is every direction.
use Rattle.std.proofs.Common.{rules, tests}
use Rattle.case.specs.law.Directions.{direction_kept}
use Rattle.case.proofs.Chains.{every_from_all}
use Rattle.case.proofs.rules.Laid.directions_kept.Goals as goal

pub returns : goal.returns
returns c =
    let w = direction_kept c.args.self.now.case.now c.args.s in
    let n = c.station-directions.result.directions in
    rw (c.station-directions.ensures, c.offset.ensures) at
    (every_from_all w n _ _ c.all.result c.all.ensures.ran (λ x b q k. search (rules, tests)))
