-- One digit more stands before those that were written (`write_turn`).
use Rattle.std.proofs.Common.{ap, ◌+◌, ℕ, arith}
use Rattle.line.proofs.Written.{writing, write_turn}
use Rattle.line.proofs.decimal.digits.Goals as goal

pub loop-i-init : goal.loop-i-init
loop-i-init c = writing _ _ _ _ (omega (arith, c.width.ensures)) c.requires

pub loop-i-preserved : goal.loop-i-preserved
loop-i-preserved c = rw c.last_digit.ensures (write_turn c.loop-i.invariant c.loop-i-test.true)

pub returns : goal.returns
returns c = record {
  line = c.loop-i.invariant.ended (omega (arith, c.loop-i.invariant.low));
  after = ap (λ (k : ℕ). c.args.at + k) c.width.ensures;
  room = omega (arith, c.width.ensures, c.requires);
}
