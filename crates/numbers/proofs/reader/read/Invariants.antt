-- What the list holds at the end stays the same: what is read from `at` on is still to be stored from `count` on.
use Rattle.std.proofs.Common.{length, ◌-◌}
use Rattle.numbers.proofs.Stored.{Storing}
use Rattle.numbers.proofs.reader.read.Given as goal

abbrev pub invariant-loop-at : goal.invariant-loop-at
invariant-loop-at l = Storing l.bytes l.initial.list l.list l.at l.count

abbrev pub decreases-loop-at : goal.decreases-loop-at
decreases-loop-at l = length l.bytes - l.at
