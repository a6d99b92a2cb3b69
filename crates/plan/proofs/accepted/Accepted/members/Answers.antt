-- The array holds the answers for the nodes, and false past them; so it does for every other number, none of which the set names.
use Rattle.std.proofs.Common.{◌∙◌, rules, false, w64, to_z, of_z, to_z-of_z}
use Rattle.numbers.specs.law.Sets.{member_of}
use Rattle.case.specs.law.Extents.{node_capacity}
use Rattle.case.specs.inside.HoldsLaws.{clear_new}
use Rattle.plan.specs.inside.RegionSet.{within, members_are}
use Rattle.plan.proofs.accepted.Accepted.members.Goals as goal

pub returns : goal.returns
returns c =
    let s = c.args.self.now in
    let n = s.layout.now.nodes in
    let held = c.filled.ensures.front false (member_of (to_z w64 (of_z w64 c.args.set))) (λ j l r q. search rules) in
    let h = rw (to_z-of_z c.ranges.set) at held in
    members_are c.args.set n (rw s.laid.nodes (within s.list.now c.args.set c.requires)) h
    (record { each = λ i l. c.filled.ensures.rest false i l ∙ (clear_new {d = false} node_capacity n).each i l })
