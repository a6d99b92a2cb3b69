-- 15: "Has the station at most 30 artificial arcs?" The place is the station.
-- Assumes nothing.
use Rattle.std.specs.Prelude.{List, [], ◌∷◌, ℕ, leb, ℤ}
use Rattle.numbers.specs.law.Question.{Question}
use Rattle.numbers.specs.law.Items.{over}
use Rattle.case.specs.law.Layout.{stations_of}
use Rattle.case.specs.law.StationArcs.{station_arcs}
use Rattle.case.specs.law.Field.{asks}

unfoldable pub station_size : List ℤ → ℕ → List Question
station_size case s = asks 15 s (leb (station_arcs case s) 30) ∷ []

unfoldable pub all_station_sizes : List ℤ → List Question
all_station_sizes case = over (station_size case) 0 (stations_of case)
