-- What the test answers decides for row `i` (`row_on`, `row_no`).
use Rattle.std.proofs.Common.{◌<◌, arith}
use Rattle.std.proofs.lemmas.Result.{err_from_is_err_and}
use Rattle.settlement.specs.law.Records.{rows_of}
use Rattle.settlement.specs.inside.Asked.{row_on, row_no}
use Rattle.settlement.proofs.rules.each_row.Goals as goal

pub returns-in_err-ask : goal.returns-in_err-ask
returns-in_err-ask g c = λ test t.
    let i = c.loop-i.i in
    let n = rows_of c.args.meter.now in
    let l : i < n = omega arith in
    let p = err_from_is_err_and c.from_residual.result c.from_residual.ensures.1 in
    rw (p.1, p.2) (row_no test c.args.number i n (c.loop-i.invariant test t) l (t i l c.passes.result c.passes.ensures) c.ask.ensures c.in_err-ask.was)

pub loop-i-preserved : goal.loop-i-preserved
loop-i-preserved g c = λ test t.
    let i = c.loop-i.i in
    let n = rows_of c.args.meter.now in
    let l : i < n = omega arith in
    row_on test c.args.number i n (c.loop-i.invariant test t) l (t i l c.passes.result c.passes.ensures) c.ask.ensures c.in_ok-ask.was
