-- The row of a time in a record, looked up.
-- Assumes nothing.
use Rattle.std.specs.Prelude.{Bool, cond, ◌&&◌, List, ℕ, zero, suc, ℤ}
use Rattle.std.specs.Int.Signed.{le_z}
use Rattle.settlement.specs.law.Records.{rows_of, time_of, grams_of}

-- the grams of the row, or that the record has no row of that time
pub data Found : Type 0 where
  found : ℤ → Found
  missing : Found

abbrev pub same_time : ℤ → ℤ → Bool
same_time a b = le_z a b && le_z b a

-- among the first n rows
unfoldable pub look_up_in : List ℤ → ℤ → ℕ → Found
look_up_in meter time zero = missing
look_up_in meter time (suc n) = cond (same_time (time_of meter n) time) (found (grams_of meter n)) (look_up_in meter time n)

unfoldable pub look_up : List ℤ → ℤ → Found
look_up meter time = look_up_in meter time (rows_of meter)
