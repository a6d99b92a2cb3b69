-- The rows of the arcs before e have no "no".
use Rattle.case.proofs.Common.{◌≡◌, first_no}
use Rattle.numbers.specs.law.Items.{over}
use Rattle.numbers.specs.inside.ItemLaws.{rest}
use Rattle.case.specs.law.ArcFields.{arc_fields}
use Rattle.case.proofs.arcs.arc_rows.Given as goal

abbrev pub invariant-loop-e : goal.invariant-loop-e
invariant-loop-e l = first_no (over (arc_fields l.case) 0 l.arcs) ≡ rest (arc_fields l.case) l.e l.arcs
