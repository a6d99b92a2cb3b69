-- "The program reads case.bin (to 4,096 bytes, 1,500 numbers) and plan.bin (8,192; 4,000) and prints one line; a longer file prints `too long`".
-- Assumes nothing.
use Rattle.std.specs.Prelude.{Bool, cond, ◌&&◌, List, [], ◌∷◌, ℕ, leb, pos, length, replicate}
use Rattle.numbers.specs.law.Told.{Told}
use Rattle.plan.specs.law.JudgedBytes.{bytes_judged}
use Rattle.line.specs.law.Line.{line_of}

abbrev pub case_bytes : ℕ
case_bytes = 4096

abbrev pub case_numbers : ℕ
case_numbers = 1500

abbrev pub plan_bytes : ℕ
plan_bytes = 8192

abbrev pub plan_numbers : ℕ
plan_numbers = 4000

abbrev pub within_limits : List ℕ → List ℕ → Bool
within_limits case plan = leb (length case) case_bytes && leb (length plan) plan_bytes

-- `too long`, and the end of the line
abbrev pub too_long : List ℕ
too_long = 116 ∷ 111 ∷ 111 ∷ 32 ∷ 108 ∷ 111 ∷ 110 ∷ 103 ∷ 10 ∷ []

-- what is told of the bytes of two files that are not too long: the lists that are lent hold zeros
abbrev pub files_told : List ℕ → List ℕ → Told
files_told case plan = (bytes_judged case plan (replicate case_numbers (pos 0)) (replicate plan_numbers (pos 0))).told

-- the line for the bytes of the two files
unfoldable pub files_line : List ℕ → List ℕ → List ℕ
files_line case plan = cond (within_limits case plan) (line_of (files_told case plan)) too_long
