-- What the bytes hold at the end stays the same: the groups of `rest` are still to be placed after the first i.
use Rattle.numbers.proofs.Placed.{Leading}
use Rattle.numbers.proofs.writer.put_leading.Given as goal

abbrev pub invariant-loop-i : goal.invariant-loop-i
invariant-loop-i l = Leading l.initial.bytes l.at l.m l.count l.bytes l.rest l.i
