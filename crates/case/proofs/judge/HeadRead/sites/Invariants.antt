-- The places so far hold their stations; the next station begins where the last of them ends.
use Rattle.case.proofs.Common.{◌≡◌, ◌≤◌, ◌+◌}
use Rattle.std.proofs.Common.{◌*◌}
use Rattle.case.specs.law.Extents.{station_extent, stations_extent}
use Rattle.case.specs.law.Layout.{station_at}
use Rattle.case.specs.law.LayoutOf.{Holds, site_of, no_site}
use Rattle.case.proofs.judge.HeadRead.sites.Given as goal

abbrev pub invariant-loop-s : goal.invariant-loop-s
invariant-loop-s l = record {
  next : l.offset ≡ station_at l.self.case.now l.s;
  early : l.offset ≤ stations_extent + station_extent * l.s;
  begun : Holds no_site l.site-items (site_of l.self.case.now) l.s;
}
