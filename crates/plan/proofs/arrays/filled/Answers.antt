-- The front is filled by `fill`, and the rest behind it is as it was.
use Rattle.std.proofs.Common.{◌≡◌, rules, length, length-take-le, arith}
use Rattle.plan.proofs.Fronts.{front}
use Rattle.plan.proofs.arrays.filled.Goals as goal

pub returns-clause-front : goal.returns-clause-front
returns-clause-front g c = λ none f h.
    let e : length c.fill.new.slots ≡ c.args.n = search (rules, length-take-le) in
    front _ _ e (λ i l. c.fill.ensures none f (λ j m r q. h j (omega (arith, m, e, c.fill.auto.slots)) r q) i (omega (arith, l, e, c.fill.auto.slots)))
