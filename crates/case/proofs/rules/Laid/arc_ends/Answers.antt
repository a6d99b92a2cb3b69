-- The test of an arc is whether its ends differ.
use Rattle.std.specs.Prelude.{not, eqb}
use Rattle.std.proofs.Common.{rules}
use Rattle.case.specs.law.Records.{arc_of}
use Rattle.case.specs.law.ArcEnds.{arc_ends, all_arc_ends}
use Rattle.case.proofs.rules.Laid.arc_ends.Goals as goal

pub returns : goal.returns
unfolding arc_ends all_arc_ends
returns c =
    let l = c.args.self.now.case.now in
    rw c.args.self.now.laid.arcs at (c.each.ensures (λ e. not (eqb (arc_of l e).from (arc_of l e).to)) (λ i p b h. search rules))
