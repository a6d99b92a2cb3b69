-- No row before `i` has a "no", so that all of them answer what those from `i` on do.
use Rattle.std.proofs.Common.{◌≡◌, ℕ}
use Rattle.std.proofs.Math.Bool.{Bool}
use Rattle.numbers.specs.law.Question.{first_no}
use Rattle.numbers.specs.inside.ItemLaws.{rest}
use Rattle.settlement.specs.inside.Asked.{Tested, EachRow, row_question}
use Rattle.settlement.specs.law.Records.{rows_of}
use Rattle.settlement.proofs.rules.each_row.Given as goal

abbrev pub invariant-loop-i : goal.invariant-loop-i
invariant-loop-i g l =
    (test : ℕ → Bool) → Tested (goal.F-post g l.passes) test (rows_of l.meter)
    → first_no (EachRow test l.number (rows_of l.meter)) ≡ rest (row_question test l.number) l.i (rows_of l.meter)
