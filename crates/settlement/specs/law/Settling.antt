-- The answer: the first "no" of 60 to 62, or the figures.
-- Assumes nothing.
use Rattle.std.specs.Prelude.{List, [], ◌∷◌, ℤ, pos, Result}
use Rattle.numbers.specs.declared.answer.No.{No}
use Rattle.numbers.specs.law.Told.{Told}
use Rattle.numbers.specs.law.Question.{first_no, found, told_with}
use Rattle.settlement.specs.declared.figures.Figures.{Figures}
use Rattle.settlement.specs.law.RecordRules.{settle_questions}
use Rattle.settlement.specs.law.Settled.{settled_figures}

-- document 02's values: the settled total, agreed, cut to the smaller, only sender, only receiver
abbrev pub settlement_values : Figures → List ℤ
settlement_values f = f.total ∷ pos f.agreed ∷ pos f.cut ∷ pos f.sender ∷ pos f.receiver ∷ []

abbrev pub settlement_told : Result Figures No → Told
settlement_told v = told_with settlement_values v

unfoldable pub settle_of : List ℤ → List ℤ → ℤ → Told
settle_of sender receiver agreed =
    settlement_told (found (first_no (settle_questions sender receiver agreed)) (settled_figures sender receiver agreed))
