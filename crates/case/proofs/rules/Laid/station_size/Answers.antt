-- The test of a station is whether it has 30 arcs at most.
use Rattle.std.specs.Prelude.{leb}
use Rattle.std.proofs.Common.{rules}
use Rattle.case.specs.law.StationArcs.{station_arcs}
use Rattle.case.specs.law.StationSize.{station_size, all_station_sizes}
use Rattle.case.proofs.rules.Laid.station_size.Goals as goal

pub returns : goal.returns
unfolding station_size all_station_sizes
returns c =
    let l = c.args.self.now.case.now in
    rw c.args.self.now.laid.stations at (c.each.ensures (λ s. leb (station_arcs l s) 30) (λ i p b h. search rules))
