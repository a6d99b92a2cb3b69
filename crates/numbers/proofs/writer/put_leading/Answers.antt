-- One group more is placed.
use Rattle.numbers.proofs.Placed.{lead_turn}
use Rattle.numbers.proofs.writer.put_leading.Goals as goal

pub loop-i-preserved : goal.loop-i-preserved
loop-i-preserved c = lead_turn c.loop-i.invariant c.loop-i-test.true
