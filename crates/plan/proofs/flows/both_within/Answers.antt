-- The numbers are read as they are, so the two tests are those of the parameters.
use Rattle.plan.proofs.Common.{◌≡◌, sym, ◌∙◌, true, to_z-of_z}
use Rattle.plan.specs.law.Compared.{within}
use Rattle.plan.proofs.SignedReads.{within_read}
use Rattle.plan.proofs.flows.both_within.Goals as goal

pub returns-then-within : goal.returns-then-within
returns-then-within c =
    let f = c.ranges in
    let least = to_z-of_z f.least in
    let a : within c.args.least c.args.a c.args.most ≡ true =
    sym (within_read least (to_z-of_z f.a) (to_z-of_z f.most)) ∙ sym c.within.ensures ∙ c.if-within.true in
    rw a (c.within-then-within.ensures ∙ within_read least (to_z-of_z f.b) (to_z-of_z f.back))
