-- The counts of a first row without a "no" are in range.
use Rattle.case.proofs.Common.{◌∙◌, sym}
use Rattle.case.specs.inside.CountsInRange.{station_counted}
use Rattle.case.proofs.stations.station_fields.Goals as goal

pub invariant_of-parts : goal.invariant_of-parts
invariant_of-parts c =
    record { early = c.requires; counted = station_counted c.args.case.now c.args.offset (sym c.station_head.ensures ∙ c.in_ok-station_head.was) }
