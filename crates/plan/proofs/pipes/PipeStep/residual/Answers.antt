-- What was read makes up the sum of 28 (`sum_read`), and the residual is its size.
use Rattle.plan.proofs.Common.{ap, ◌∙◌, arith, nat_abs, held, counted}
use Rattle.plan.specs.law.Pipes.{pipe_residual}
use Rattle.plan.proofs.ArcLaws.{sum_read, to_in}
use Rattle.plan.proofs.SignedReads.{read_bounded}
use Rattle.plan.proofs.pipes.PipeStep.residual.Goals as goal

pub change-y-requires : goal.change-y-requires
change-y-requires c =
    let p = c.args.self.now.at in
    let s = c.args.self.now.step in
    let n = to_in s.case.yes p.at.arc c.arc-c.ensures in
    (omega (arith, n, (counted s.case.yes).nodes), s.before.each _ n, s.pressures.each _ n)

pub imbalance-requires : goal.imbalance-requires
imbalance-requires c =
    let p = c.args.self.now.at in
    (sum_read p c.duration-dt.ensures c.arc_row-r.ensures c.pipe.ensures c.arc-c.ensures c.change-x.ensures c.change-y.ensures).sizes

pub size-requires : goal.size-requires
size-requires c =
    let p = c.args.self.now.at in
    let t = (sum_read p c.duration-dt.ensures c.arc_row-r.ensures c.pipe.ensures c.arc-c.ensures c.change-x.ensures c.change-y.ensures).total in
    omega (arith, (read_bounded (held (record { val = c.imbalance.ensures ∙ t.val; bound = t.bound }) tt)).bound)

pub returns : goal.returns
unfolding pipe_residual
returns c =
    let p = c.args.self.now.at in
    let t = (sum_read p c.duration-dt.ensures c.arc_row-r.ensures c.pipe.ensures c.arc-c.ensures c.change-x.ensures c.change-y.ensures).total in
    c.size.ensures ∙ ap nat_abs (held (record { val = c.imbalance.ensures ∙ t.val; bound = t.bound }) tt).val
