-- Counting over the first sites is counting the stations that have the node.
use Rattle.std.proofs.Common.{rules, ◌≡◌, ◌∙◌, take, arith}
use Rattle.std.specs.List.{count_by}
use Rattle.numbers.specs.law.Sets.{member_of}
use Rattle.case.specs.declared.records.Site.{Site}
use Rattle.case.specs.law.LayoutOf.{no_site}
use Rattle.case.proofs.Chains.{count_first}
use Rattle.case.proofs.Ruled.{stations_with}
use Rattle.case.proofs.rules.Laid.stations_with.Goals as goal

pub returns : goal.returns
returns c =
    let y = c.args.self.now.layout in
    let w = λ (z : Site). member_of z.nodes c.args.v in
    let e : c.count.result ≡ count_by w (take y.stations y.sites) = search rules in
    e ∙ count_first w y.sites no_site y.stations (omega arith) ∙ stations_with c.args.self.now.laid c.args.v
