-- 12: "After the last field, 12: is nothing left over (place: the first number that is)?"
-- Assumes nothing.
use Rattle.std.specs.Prelude.{List, [], ◌∷◌, leb, ℤ, length}
use Rattle.numbers.specs.law.Question.{Question}
use Rattle.case.specs.law.Layout.{case_end}
use Rattle.case.specs.law.Field.{asks}

unfoldable pub leftover : List ℤ → List Question
leftover case = asks 12 (case_end case) (leb (length case) (case_end case)) ∷ []
