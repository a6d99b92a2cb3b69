-- A part more is added.
use Rattle.std.proofs.Common.{refl, arith}
use Rattle.numbers.specs.law.Sums.{sum_n}
use Rattle.plan.proofs.Adding.{more_n}
use Rattle.plan.proofs.sums.sum_n.Goals as goal

pub loop-i-init : goal.loop-i-init
unfolding sum_n
loop-i-init g c = record { is = λ f h. refl; sized = omega arith }

pub loop-i-preserved : goal.loop-i-preserved
loop-i-preserved g c =
    let p = c.requires.sized c.loop-i.i c.loop-i-test.true c.part-all.result c.part-all.ensures in
    record {
      is = λ f h. more_n f c.loop-i.i (c.loop-i.invariant.is f (λ j l r q. h j (omega (arith, l)) r q))
          (h c.loop-i.i (omega arith) c.part-all.result c.part-all.ensures);
      sized = omega (arith, p, c.loop-i.invariant.sized);
    }
