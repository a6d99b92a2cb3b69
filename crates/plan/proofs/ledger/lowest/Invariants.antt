-- The lowest item from n on is the lowest from v on, as no item between them is in the set.
use Rattle.std.proofs.Common.{◌≡◌, ◌-◌}
use Rattle.case.specs.law.Extents.{set_room}
use Rattle.plan.specs.law.Ledger.{lowest_of}
use Rattle.plan.proofs.ledger.lowest.Given as goal

abbrev pub invariant-loop-v : goal.invariant-loop-v
invariant-loop-v l = lowest_of l.set l.n (set_room - l.n) ≡ lowest_of l.set l.v (set_room - l.v)
