-- The two sets of a direction in their range.
-- Assumes nothing.
use Rattle.std.specs.Prelude.{pos}
use Rattle.case.specs.declared.records.Direction.{Direction}
use Rattle.case.specs.law.Extents.{set_room}
use Rattle.case.specs.law.StationFields.{first_items}
use Rattle.case.specs.claims.Says.{Between}

pub record DirectionRanges (d : Direction) : Type 0 where
  pub entry : Between (pos 0) d.entry (first_items set_room)
  pub exit : Between (pos 0) d.exit (first_items set_room)
