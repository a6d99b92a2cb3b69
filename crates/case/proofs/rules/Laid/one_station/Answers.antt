-- The test of a node is whether it is in one station at most.
use Rattle.std.specs.Prelude.{leb}
use Rattle.std.proofs.Common.{rules}
use Rattle.numbers.specs.law.Sums.{count}
use Rattle.case.specs.law.Layout.{stations_of}
use Rattle.case.specs.law.OneStation.{in_station, one_station, all_one_station}
use Rattle.case.proofs.rules.Laid.one_station.Goals as goal

pub returns : goal.returns
unfolding one_station all_one_station
returns c =
    let l = c.args.self.now.case.now in
    rw c.args.self.now.laid.nodes at (c.each.ensures (λ v. leb (count (stations_of l) (in_station l v)) 1) (λ i p b h. search rules))
