-- What the line holds at the end stays the same: the digits of `rest` are still to be written, up to `i`.
use Rattle.line.proofs.Written.{Writing}
use Rattle.line.proofs.decimal.digits.Given as goal

abbrev pub invariant-loop-i : goal.invariant-loop-i
invariant-loop-i l = Writing l.fn.line l.at l.n l.line l.rest l.i
