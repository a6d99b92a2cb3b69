-- Document 01's number and values for what the reader and the writer answer: a count, or a refusal.
-- Assumes nothing.
use Rattle.std.specs.Prelude.{[], ◌∷◌, ℕ, pos, Result}
use Rattle.numbers.specs.law.Told.{Told}
use Rattle.numbers.specs.law.Question.{told_with}
use Rattle.numbers.specs.declared.answer.No.{No}

abbrev pub Count : Type 0
Count = Result ℕ No

abbrev pub count_told : Count → Told
count_told c = told_with (λ n. pos n ∷ []) c
