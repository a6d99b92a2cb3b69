-- Each step adds at most a day to the time before.
use Rattle.case.proofs.Common.{arith, ◌∙◌, sym}
use Rattle.numbers.specs.inside.ItemLaws.{rest_turn}
use Rattle.case.proofs.Counting.{time_grows}
use Rattle.case.proofs.head.times.Goals as goal

pub loop-i-preserved : goal.loop-i-preserved
loop-i-preserved c =
    let h = c.loop-i in
    let g = time_grows c.args.case.now h.i h.invariant.early (sym c.time_field.ensures ∙ c.in_ok-time_field.was) in
    record { asked = grind (arith, rest_turn); early = record { bound = omega (arith, g.bound) } }
