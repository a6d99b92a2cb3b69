-- 13: "Do the arc's ends differ?" The place is the arc.
-- Assumes nothing.
use Rattle.std.specs.Prelude.{not, List, [], ◌∷◌, ℕ, eqb, ℤ}
use Rattle.numbers.specs.law.Question.{Question}
use Rattle.numbers.specs.law.Items.{over}
use Rattle.case.specs.law.Layout.{arcs_of}
use Rattle.case.specs.law.Records.{arc_of}
use Rattle.case.specs.law.Field.{asks}

unfoldable pub arc_ends : List ℤ → ℕ → List Question
arc_ends case e = asks 13 e (not (eqb (arc_of case e).from (arc_of case e).to)) ∷ []

unfoldable pub all_arc_ends : List ℤ → List Question
all_arc_ends case = over (arc_ends case) 0 (arcs_of case)
