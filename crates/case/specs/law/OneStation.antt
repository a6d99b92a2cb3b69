-- 14: "Is the node in at most one station?" The place is the node.
-- Assumes nothing.
use Rattle.std.specs.Prelude.{Bool, List, [], ◌∷◌, ℕ, leb, ℤ}
use Rattle.numbers.specs.law.Question.{Question}
use Rattle.numbers.specs.law.Items.{over}
use Rattle.numbers.specs.law.Sets.{member_of}
use Rattle.numbers.specs.law.Sums.{count}
use Rattle.case.specs.law.Layout.{nodes_of, stations_of}
use Rattle.case.specs.law.StationNodes.{station_nodes}
use Rattle.case.specs.law.Field.{asks}

-- is the node in station s?
abbrev pub in_station : List ℤ → ℕ → ℕ → Bool
in_station case v s = member_of (station_nodes case s) v

unfoldable pub one_station : List ℤ → ℕ → List Question
one_station case v = asks 14 v (leb (count (stations_of case) (in_station case v)) 1) ∷ []

unfoldable pub all_one_station : List ℤ → List Question
all_one_station case = over (one_station case) 0 (nodes_of case)
