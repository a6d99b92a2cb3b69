-- Where a row is read that was found from the list's beginning or from its end: what is read there is what stands in the row (`Near.antt`).
-- Assumes nothing.
use Rattle.std.specs.Prelude.{◌≡◌, List, ℕ, ◌+◌, ℤ, pos, min, length, get_or}
use Rattle.std.proofs.Common.{refl, arith}
pub use Rattle.case.specs.inside.Near.{near, row_first}

pub near_first : (case : List ℤ) (offset : ℕ) → get_or case (min offset (length case)) (pos 0) ≡ get_or case offset (pos 0)
near_first case offset = row_first case offset refl

-- a place some way into a row that is found so is found so itself
pub further : (offset way end : ℕ) → min (min offset end + way) end ≡ min (offset + way) end
further offset way end = omega arith
