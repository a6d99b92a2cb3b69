-- The test of a station is whether its directions' sets are kept.
use Rattle.std.proofs.Common.{rules}
use Rattle.case.specs.law.Records.{station_of}
use Rattle.case.specs.law.StationArcs.{every}
use Rattle.case.specs.law.Directions.{direction_kept, direction_sets, all_direction_sets}
use Rattle.case.proofs.rules.Laid.direction_sets.Goals as goal

pub returns : goal.returns
unfolding direction_sets all_direction_sets
returns c =
    let l = c.args.self.now.case.now in
    rw c.args.self.now.laid.stations at (c.each.ensures (λ s. every (station_of l s).directions (direction_kept l s)) (λ i p b h. search rules))
