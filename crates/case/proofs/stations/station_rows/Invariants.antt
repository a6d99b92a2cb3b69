-- The rows of the stations so far have no "no", so the next station begins where the last of them ends.
use Rattle.case.proofs.Common.{◌≡◌, ◌≤◌, ◌+◌, first_no}
use Prim.Native.Nat.{◌*◌}
use Rattle.numbers.specs.inside.ItemLaws.{rest}
use Rattle.case.specs.law.Extents.{stations_extent, station_extent}
use Rattle.case.specs.law.Layout.{station_at}
use Rattle.case.specs.law.StationFields.{station_fields, all_station_fields}
use Rattle.case.proofs.stations.station_rows.Given as goal

abbrev pub invariant-loop : goal.invariant-loop
invariant-loop l = record {
  asked : first_no (all_station_fields l.case) ≡ rest (station_fields l.case) l.counter l.stations;
  place : l.offset ≡ station_at l.case l.counter;
  early : l.offset ≤ stations_extent + station_extent * l.counter;
}
