-- "Then k times in seconds; time 0 is 0, each is 1..86,400 above the one before."
-- Assumes nothing.
use Rattle.std.specs.Prelude.{List, ℕ, ℤ, pos, ◌+ℤ◌}
use Rattle.numbers.specs.law.Question.{Question}
use Rattle.numbers.specs.law.Items.{over}
use Rattle.case.specs.law.Layout.{time_at, steps_of}
use Rattle.case.specs.law.Records.{time_before}
use Rattle.case.specs.law.Field.{field}

-- the time at which the step with index i ends
unfoldable pub time_field : List ℤ → ℕ → List Question
time_field case i = field case (time_at i) (time_before case i +ℤ pos 1) (time_before case i +ℤ pos 86400)

unfoldable pub time_fields : List ℤ → List Question
time_fields case = over (time_field case) 0 (steps_of case)
