-- The fields before j have no "no": all n together answer what those from j on do.
use Rattle.case.proofs.Common.{◌≡◌, first_no}
use Rattle.numbers.specs.law.Items.{over}
use Rattle.numbers.specs.inside.ItemLaws.{rest}
use Rattle.case.specs.law.Field.{next_field}
use Rattle.case.proofs.fields.fields.Given as goal

abbrev pub invariant-loop-j : goal.invariant-loop-j
invariant-loop-j l =
    first_no (over (next_field l.case l.i l.low l.high) 0 l.n) ≡ rest (next_field l.case l.i l.low l.high) l.j l.n
