-- From 64 on a set has no item.
use Rattle.std.proofs.Common.{arith, le-ltb}
use Rattle.numbers.specs.law.Signed.{pos_part}
use Rattle.numbers.specs.inside.SignedLocals.{range}
use Rattle.numbers.specs.inside.SetLaws.{bit_high}
use Rattle.numbers.proofs.sets.member.Goals as goal

pub returns-else-i-lt64 : goal.returns-else-i-lt64
returns-else-i-lt64 c =
    rw (le-ltb _ _ c.if-i-lt64.false, bit_high 64 (pos_part c.args.set) c.args.i (omega (arith, range c.ranges.set)) c.if-i-lt64.false)
