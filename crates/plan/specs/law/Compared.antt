-- Ranges and equality of signed numbers, and a question of the plan.
-- Assumes nothing.
use Rattle.std.specs.Prelude.{Bool, ◌&&◌, ℕ, ◌+◌, ℤ, pos}
use Rattle.std.specs.Int.Signed.{le_z}
use Rattle.numbers.specs.law.Question.{Question}

abbrev pub within : ℤ → ℤ → ℤ → Bool
within low x high = le_z low x && le_z x high

abbrev pub same : ℤ → ℤ → Bool
same a b = le_z a b && le_z b a

abbrev pub is_zero : ℤ → Bool
is_zero x = same x (pos 0)

-- a question of the step with index i, which is document 01's step i + 1
abbrev pub asked : ℕ → ℕ → ℕ → Bool → Question
asked number i place kept = record { yes = kept; number = number; step = i + 1; place = place }
