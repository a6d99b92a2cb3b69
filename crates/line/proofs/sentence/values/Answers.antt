-- A space and one number more (`space_turn`).
use Rattle.std.proofs.Common.{rules, ◌≡◌, get_or, pos, w64, to_z, of_z}
use Rattle.line.proofs.Spaced.{space_turn}
use Rattle.line.proofs.sentence.values.Goals as goal

pub loop-x-preserved : goal.loop-x-preserved
loop-x-preserved c =
    let x = get_or c.args.list.now c.loop-x.x-index (pos 0) in
    let e : to_z w64 (of_z w64 x) ≡ x = search rules in
    space_turn c.loop-x.invariant c.loop-x-test.true (rw e at c.number-at.ensures.put) c.number-at.ensures.upper_bound
