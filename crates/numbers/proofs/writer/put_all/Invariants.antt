-- What the bytes hold at the end stays the same: the numbers from the index on are still to be placed from `at` on.
use Rattle.numbers.proofs.Listed.{Filling}
use Rattle.numbers.proofs.writer.put_all.Given as goal

abbrev pub invariant-loop-x : goal.invariant-loop-x
invariant-loop-x l = Filling l.list l.initial.bytes l.bytes l.at l.x-index
