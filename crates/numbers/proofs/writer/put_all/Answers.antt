-- The number at the index is placed next: its groups are those that `put` was given, since a number of a list is read back as it is.
use Rattle.std.proofs.Common.{◌≡◌, rules}
use Rattle.numbers.specs.law.Groups.{groups}
use Rattle.numbers.proofs.Listed.{fill_turn, groups_at}
use Rattle.numbers.proofs.writer.put_all.Goals as goal

pub loop-x-preserved : goal.loop-x-preserved
loop-x-preserved c =
    let g : groups c.unsigned.result ≡ groups_at c.args.list.now c.loop-x.x-index = search rules in
    fill_turn c.loop-x.invariant c.loop-x-test.true (simp g at c.put-at.ensures.bytes_after) (simp g at c.put-at.ensures.value)
