-- "The sender and the receiver each record mass per interval as a list of rows (end time in seconds, grams)."
-- Assumes nothing.
use Rattle.std.specs.Prelude.{List, ℕ, ◌+◌, ◌*◌, ◌/◌, ℤ, pos, length, get_or}

-- a meter stands for its record: how many whole rows it has
abbrev pub rows_of : List ℤ → ℕ
rows_of meter = length meter / 2

-- the end time of row i, and its grams
abbrev pub time_of : List ℤ → ℕ → ℤ
time_of meter i = get_or meter (2 * i) (pos 0)

abbrev pub grams_of : List ℤ → ℕ → ℤ
grams_of meter i = get_or meter (2 * i + 1) (pos 0)
