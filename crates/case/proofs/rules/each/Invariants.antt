-- No item before `i` has a "no", so that all of them answer what those from `i` on do.
use Rattle.std.specs.Prelude.{◌≡◌, Bool, ℕ}
use Rattle.numbers.specs.law.Question.{first_no}
use Rattle.numbers.specs.inside.ItemLaws.{rest}
use Rattle.case.specs.inside.Each.{Tested, item_question, EachItem}
use Rattle.case.proofs.rules.each.Given as goal

abbrev pub invariant-loop-i : goal.invariant-loop-i
invariant-loop-i g l =
    (test : ℕ → Bool) → Tested (goal.F-post g l.kept) test l.n
    → first_no (EachItem test l.number l.n) ≡ rest (item_question test l.number) l.i l.n
