-- The first store adds what leaves, the second takes off what enters.
use Rattle.plan.proofs.NetFlows.{moved_is}
use Rattle.plan.proofs.balance.moved.Goals as goal

pub returns : goal.returns
returns c = let p = c.requires in moved_is p.0 p.1 p.2 p.3 p.4 p.5
