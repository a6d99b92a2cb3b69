-- `Merging` holds from turn to turn, each of which settles a row.
use Rattle.std.proofs.Common.{◌+◌, ◌-◌}
use Rattle.settlement.specs.inside.Merging.{Merging}
use Rattle.settlement.proofs.merge.Records.merge.Given as goal

abbrev pub invariant-loop-m : goal.invariant-loop-m
invariant-loop-m l = Merging l.self.sender.now l.self.receiver.now l.self.agreed l.m

abbrev pub decreases-loop-m : goal.decreases-loop-m
decreases-loop-m l = l.both - (l.m.i + l.m.j)
