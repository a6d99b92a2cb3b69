-- 17: "Do on and off share nothing and name only its arcs, do its arcs' machine sets name only its machines, and does
-- activity at step 0 obey the step-0 state?" The place is the station.
-- Assumes nothing.
use Rattle.std.specs.Prelude.{Bool, not, ◌&&◌, ◌||◌, List, [], ◌∷◌, ℕ, leb, ℤ, pos}
use Rattle.numbers.specs.law.Question.{Question}
use Rattle.numbers.specs.law.Items.{over}
use Rattle.numbers.specs.law.Sets.{disjoint_of, subset_of}
use Rattle.case.specs.law.Layout.{arcs_of, stations_of, station_at}
use Rattle.case.specs.law.Records.{artificial_of, station_of, station_row, state_row}
use Rattle.case.specs.law.StationArcs.{belongs, station_arcs, arc_set, every}
use Rattle.case.specs.law.StationFields.{first_items}
use Rattle.case.specs.law.Field.{asks}

-- the on and off set of state z of the station whose rows begin at `offset` and whose arcs are the set `own`
unfoldable pub state_kept : List ℤ → ℕ → ℤ → ℕ → Bool
state_kept case offset own z =
    disjoint_of (state_row case offset z).on (state_row case offset z).off
    && (subset_of (state_row case offset z).on own
    && subset_of (state_row case offset z).off own)

-- the machine set of arc e, if the arc is the station's, whose machines are the set `own`
unfoldable pub machines_kept : List ℤ → ℕ → ℤ → ℕ → Bool
machines_kept case s own e = not (belongs case s e) || subset_of (artificial_of case e).machines own

-- is arc e active at step 0?
abbrev pub active_at_start : List ℤ → ℕ → Bool
active_at_start case e = leb 1 (artificial_of case e).active

-- the station's arcs that are active at step 0
abbrev pub start_set : List ℤ → ℕ → ℤ
start_set case s = pos (arc_set case s (active_at_start case) (arcs_of case))

-- every arc of the step-0 state's on set is active at step 0, and none of its off set
unfoldable pub start_kept : List ℤ → ℕ → ℤ → Bool
start_kept case offset active =
    subset_of (state_row case offset (station_row case offset).state).on active
    && disjoint_of (state_row case offset (station_row case offset).state).off active

unfoldable pub station_kept : List ℤ → ℕ → Bool
station_kept case s =
    every (station_of case s).states (state_kept case (station_at case s) (first_items (station_arcs case s)))
    && (every (arcs_of case) (machines_kept case s (first_items (station_of case s).machines))
    && start_kept case (station_at case s) (start_set case s))

unfoldable pub state_sets : List ℤ → ℕ → List Question
state_sets case s = asks 17 s (station_kept case s) ∷ []

unfoldable pub all_state_sets : List ℤ → List Question
all_state_sets case = over (state_sets case) 0 (stations_of case)
