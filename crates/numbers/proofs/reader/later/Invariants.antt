-- The bytes before `start + k` make up `value`; what the whole number is stays the same.
use Rattle.std.proofs.Common.{◌+◌, ◌-◌}
use Rattle.numbers.proofs.Gathered.{Gathering}
use Rattle.numbers.proofs.reader.later.Given as goal

abbrev pub invariant-loop-k : goal.invariant-loop-k
invariant-loop-k l = Gathering l.bytes l.start l.group l.value l.scale (l.start + l.k) (8 - l.k)
