-- A part more is added, which is small, and so the sum fits and is read back as it is.
use Rattle.std.proofs.Common.{◌<◌, refl, arith, w64, to_z}
use Rattle.numbers.specs.law.Sums.{sum}
use Rattle.case.specs.law.Extents.{arc_capacity}
use Rattle.plan.proofs.Adding.{back_sized, back_is}
use Rattle.plan.proofs.sums.sum.Goals as goal

pub loop-i-init : goal.loop-i-init
unfolding sum
loop-i-init g c = record { is = λ f h. refl; sized = omega arith }

pub loop-i-preserved : goal.loop-i-preserved
loop-i-preserved g c =
    let i = c.loop-i.i in
    let a = to_z w64 c.loop-i.all-bits in
    let r = c.part-all.result in
    let p = c.requires.sized i c.loop-i-test.true r c.part-all.ensures in
    let few : i < arc_capacity = omega (arith, c.requires.few) in
    record {
      is = λ f h. back_is i few a r c.loop-i.invariant.sized p f (c.loop-i.invariant.is f (λ j l r q. h j (omega (arith, l)) r q))
          (h i (omega arith) r c.part-all.ensures);
      sized = back_sized i few a r c.loop-i.invariant.sized p;
    }
