-- What 24 has let pass is in range, as 28 and 29 need it.
use Rattle.plan.proofs.ArcLaws.{at_flow}
use Rattle.plan.proofs.step.Step.past_flows.Goals as goal

pub pipe_answer-requires : goal.pipe_answer-requires
pipe_answer-requires c = at_flow c.requires
