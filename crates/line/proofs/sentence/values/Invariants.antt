-- The first numbers stand in the line, with a space in front of each.
use Rattle.line.proofs.Spaced.{Spacing}
use Rattle.line.proofs.sentence.values.Given as goal

abbrev pub invariant-loop-x : goal.invariant-loop-x
invariant-loop-x l = Spacing l.list l.fn.line l.start l.line l.at l.x-index
