-- A number as a count: 0 where it is negative.
-- Assumes nothing.
use Rattle.std.specs.Prelude.{ℕ, ℤ, pos, negsuc}

abbrev pub pos_part : ℤ → ℕ
pos_part (pos n) = n
pos_part (negsuc n) = 0
