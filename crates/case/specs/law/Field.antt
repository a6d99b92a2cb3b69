-- 10 and 11: "10 Is the field there? 11 Is it in range?", asked of one field before the next is looked at. The place is the field's index, the step 0.
-- Assumes nothing.
use Rattle.std.specs.Prelude.{Bool, ◌&&◌, List, [], ◌∷◌, ℕ, ◌+◌, ltb, ℤ, pos, ◌-ℤ◌, length}
use Rattle.std.specs.Int.Signed.{le_z}
use Rattle.numbers.specs.law.Question.{Question}
use Rattle.numbers.specs.law.Items.{over}
use Rattle.case.specs.law.Layout.{number_at}

-- a question of the case: its step is 0
abbrev pub asks : ℕ → ℕ → Bool → Question
asks number place kept = record { yes = kept; number = number; step = 0; place = place }

unfoldable pub field : List ℤ → ℕ → ℤ → ℤ → List Question
field case i low high =
    asks 10 i (ltb i (length case))
    ∷ asks 11 i (le_z low (number_at case i) && le_z (number_at case i) high)
    ∷ []

-- the j-th of the fields from i on, which share their range
abbrev pub next_field : List ℤ → ℕ → ℤ → ℤ → ℕ → List Question
next_field case i low high j = field case (i + j) low high

-- the n fields from i on, which share their range
unfoldable pub fields : List ℤ → ℕ → ℕ → ℤ → ℤ → List Question
fields case i n low high = over (next_field case i low high) 0 n

-- the last index of n items, -1 where there are none, so that 0..last_of n is empty then
abbrev pub last_of : ℕ → ℤ
last_of n = pos n -ℤ pos 1

-- ---- limits that several fields share

abbrev pub most_pressure : ℤ
most_pressure = pos 200000

abbrev pub most_flow : ℤ
most_flow = pos 10000000

abbrev pub most_weight : ℤ
most_weight = pos 1000000
