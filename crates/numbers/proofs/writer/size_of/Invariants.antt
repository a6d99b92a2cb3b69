-- The first numbers take `total` bytes, for which there is room.
use Rattle.numbers.proofs.Listed.{Sizing}
use Rattle.numbers.proofs.writer.size_of.Given as goal

abbrev pub invariant-loop-x : goal.invariant-loop-x
invariant-loop-x l = Sizing l.list l.room l.total l.x-index
