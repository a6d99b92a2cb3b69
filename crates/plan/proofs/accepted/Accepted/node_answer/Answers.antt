-- A node of an accepted case is in range.
use Rattle.plan.proofs.CaseFacts.{node_read}
use Rattle.plan.proofs.accepted.Accepted.node_answer.Goals as goal

pub numbers_kept-requires : goal.numbers_kept-requires
numbers_kept-requires c = let p = c.requires in node_read _ c.node-n.ensures c.args.self.now.yes p.1 p.0
