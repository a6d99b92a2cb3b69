-- Questions that all have a "yes".
-- Assumes nothing.
use Rattle.std.specs.Prelude.{◌≡◌, true, List, [], ◌∷◌}
use Rattle.numbers.specs.law.Question.{Question}

-- every question is answered yes
abbrev pub AllYes : List Question → Type 0
AllYes [] = Unit {0}
AllYes (q ∷ qs) = (q.yes ≡ true) × AllYes qs
