-- 60 to 62, "the sender's record before the receiver's at each".
-- Assumes nothing.
use Rattle.std.specs.Prelude.{Bool, ◌&&◌, List, [], ◌∷◌, ◌++◌, ℕ, zero, suc, ◌%◌, eqb, leb, ℤ, pos, length}
use Rattle.std.specs.Int.Signed.{le_z, lt_z}
use Rattle.numbers.specs.law.Question.{Question}
use Rattle.numbers.specs.law.Items.{over}
use Rattle.settlement.specs.law.Records.{rows_of, time_of, grams_of}

-- "At most 5,000 rows each"
abbrev pub most_rows : ℕ
most_rows = 5000

-- "0..10^12": the range of a mass, and of the agreed figure
abbrev pub in_grams : ℤ → Bool
in_grams x = le_z (pos 0) x && le_z x (pos 1000000000000)

-- ---- 60 "are the rows whole and at most 5,000, and is the agreed figure in range?"

unfoldable pub whole_rows : List ℤ → Bool
whole_rows meter = eqb (length meter % 2) 0 && leb (rows_of meter) most_rows

unfoldable pub records_question : List ℤ → List ℤ → ℤ → Question
records_question sender receiver agreed =
    record { yes = whole_rows sender && (whole_rows receiver && in_grams agreed); number = 60; step = 0; place = 0 }

-- ---- 61 "do times rise strictly from 0 or more?"

unfoldable pub rises : List ℤ → ℕ → Bool
rises meter zero = le_z (pos 0) (time_of meter 0)
rises meter (suc i) = lt_z (time_of meter i) (time_of meter (suc i))

unfoldable pub time_question : List ℤ → ℕ → List Question
time_question meter i = record { yes = rises meter i; number = 61; step = 0; place = i } ∷ []

unfoldable pub time_questions : List ℤ → List Question
time_questions meter = over (time_question meter) 0 (rows_of meter)

-- ---- 62 "is each mass 0..10^12?"

unfoldable pub mass_question : List ℤ → ℕ → List Question
mass_question meter i = record { yes = in_grams (grams_of meter i); number = 62; step = 0; place = i } ∷ []

unfoldable pub mass_questions : List ℤ → List Question
mass_questions meter = over (mass_question meter) 0 (rows_of meter)

-- ---- all of them, in order

unfoldable pub settle_questions : List ℤ → List ℤ → ℤ → List Question
settle_questions sender receiver agreed =
    records_question sender receiver agreed
    ∷ (time_questions sender ++ (time_questions receiver ++ (mass_questions sender ++ mass_questions receiver)))
