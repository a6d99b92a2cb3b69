-- The row, its bounds and its demand are each read from where they begin, or from the end if that is nearer.
use Rattle.std.proofs.Common.{◌≡◌, min, length, ◌∙◌, arith, to_z-of_z}
use Rattle.case.specs.law.Layout.{bounds_at, demand_at}
use Rattle.case.proofs.Reading.{near, near_first, further}
use Rattle.case.proofs.read.node.Goals as goal

pub returns : goal.returns
returns c =
    let a = c.args in
    let l = a.case.now in
    let r = c.node_at-offset.ensures in
    let s : c.bounds_at-bounds.result ≡ min (bounds_at l a.v a.i) (length l) = rw r at c.bounds_at-bounds.ensures ∙ further _ _ _ in
    let t : c.demand_at.result ≡ min (demand_at l a.v a.i) (length l) = rw r at c.demand_at.ensures ∙ further _ _ _ in
    grind (arith, near, near_first, to_z-of_z)
