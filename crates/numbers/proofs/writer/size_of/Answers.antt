-- What was counted is the groups of the number at the index; there is room for it, or the list is over.
use Rattle.std.proofs.Common.{rules}
use Rattle.numbers.proofs.Listed.{size_over, size_end}
use Rattle.numbers.proofs.writer.size_of.Goals as goal

pub returns-then-room-total : goal.returns-then-room-total
returns-then-room-total c = search (rules, size_over)

pub returns : goal.returns
returns c = size_end c.loop-x.invariant c.loop-x-test.false
