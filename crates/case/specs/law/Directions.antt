-- 16: "Does each direction's entry and exit set share no node and hold only its fence nodes?" The place is the station.
-- Assumes nothing.
use Rattle.std.specs.Prelude.{Bool, not, ◌&&◌, ◌||◌, List, [], ◌∷◌, ℕ, ℤ}
use Rattle.numbers.specs.law.Question.{Question}
use Rattle.numbers.specs.law.Items.{over}
use Rattle.numbers.specs.law.Sets.{member_of, disjoint_of}
use Rattle.case.specs.declared.records.Direction.{Direction}
use Rattle.case.specs.law.Extents.{set_room}
use Rattle.case.specs.law.Layout.{stations_of}
use Rattle.case.specs.law.Records.{station_of, direction_of}
use Rattle.case.specs.law.StationArcs.{every}
use Rattle.case.specs.law.StationNodes.{fence_node}
use Rattle.case.specs.law.Field.{asks}

-- Each node of the set is a fence node, where `fence` says which nodes are. By 11 a node set has the range 0..2^60-1, so its items are among the first 60.
unfoldable pub only_fence : (ℕ → Bool) → ℤ → Bool
only_fence fence set = every set_room (λ v. not (member_of set v) || fence v)

-- a direction's two sets share no node and hold only fence nodes
unfoldable pub sets_kept : (ℕ → Bool) → Direction → Bool
sets_kept fence d = disjoint_of d.entry d.exit && (only_fence fence d.entry && only_fence fence d.exit)

abbrev pub direction_kept : List ℤ → ℕ → ℕ → Bool
direction_kept case s f = sets_kept (fence_node case s) (direction_of case s f)

unfoldable pub direction_sets : List ℤ → ℕ → List Question
direction_sets case s = asks 16 s (every (station_of case s).directions (direction_kept case s)) ∷ []

unfoldable pub all_direction_sets : List ℤ → List Question
all_direction_sets case = over (direction_sets case) 0 (stations_of case)
