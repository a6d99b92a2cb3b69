-- One slot more is filled, and the others keep.
use Rattle.std.proofs.Common.{◌<◌, ◌≢◌, length, arith, get_or-set_other, get_or-set_same, below_more}
use Rattle.plan.proofs.arrays.fill.Goals as goal

pub loop-i-preserved : goal.loop-i-preserved
loop-i-preserved g c = λ none f h. below_more _ _
    (λ k l. let ne : k ≢ c.loop-i.i = omega arith in
    rw get_or-set_other (c.loop-i.invariant none f (λ j m r q. h j (omega (arith, m)) r q) k l))
    (let lt : c.loop-i.i < length c.loop-i.slots = omega arith in
    rw get_or-set_same (h c.loop-i.i (omega arith) c.part.result c.part.ensures))

pub returns : goal.returns
returns g c = λ none f h i l. c.loop-i.invariant none f (λ j m r q. h j (omega (arith, m, c.loop-i.auto.i-end)) r q) i (omega (arith, l))
