-- The rows of a station without a "no" have counts in range and narrow machines; past the last station begins what is left over.
use Rattle.case.proofs.Common.{arith, ◌≡◌, ◌∙◌, sym, first_no_append}
use Rattle.numbers.specs.inside.ItemLaws.{rest_done}
use Rattle.numbers.specs.inside.QuestionLaws.{or_else_yes}
use Rattle.case.specs.law.Layout.{stations_of}
use Rattle.case.specs.law.Leftover.{leftover}
use Rattle.case.specs.law.StationFields.{all_station_fields}
use Rattle.case.specs.inside.CountsInRange.{row_counted}
use Rattle.case.proofs.stations.station_rows.Goals as goal

pub invariant_of-end : goal.invariant_of-end
invariant_of-end c =
    record { early = omega arith; counted = row_counted c.args.case.now c.loop.offset (sym c.station_fields.ensures ∙ c.in_ok-station_fields.was) }

pub returns : goal.returns
unfolding all_station_fields leftover
returns c =
    let l = c.args.case.now in
    let e : c.loop.counter ≡ stations_of l = omega arith in
    grind (arith, first_no_append, rest_done, or_else_yes)
