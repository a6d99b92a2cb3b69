-- A station's artificial arcs: kinds 3 to 6 "are artificial and belong to a station".
-- Assumes nothing.
use Rattle.std.specs.Prelude.{Bool, true, ◌&&◌, List, ℕ, zero, suc, ◌^◌, eqb, leb, ℤ}
use Rattle.numbers.specs.law.Sums.{sum_n, only_n, count}
use Rattle.case.specs.law.Layout.{arcs_of}
use Rattle.case.specs.law.Records.{arc_of, artificial_of}

-- is arc e one of the station's?
abbrev pub belongs : List ℤ → ℕ → ℕ → Bool
belongs case s e = leb 3 (arc_of case e).kind && eqb (artificial_of case e).station s

-- how many of the station's arcs stand before arc e: which of the station's arcs e is, in arc order
unfoldable pub arcs_before : List ℤ → ℕ → ℕ → ℕ
arcs_before case s e = count e (belongs case s)

-- how many arcs the station has
abbrev pub station_arcs : List ℤ → ℕ → ℕ
station_arcs case s = arcs_before case s (arcs_of case)

-- what arc e puts into a set of the station's arcs ("bit j the station's j-th artificial arc in arc order"), where w says which arcs are in it
abbrev pub arc_bit : List ℤ → ℕ → (ℕ → Bool) → ℕ → ℕ
arc_bit case s w e = only_n (belongs case s e && w e) (2 ^ arcs_before case s e)

-- the set of those of the station's arcs, among the first n arcs, that w names
unfoldable pub arc_set : List ℤ → ℕ → (ℕ → Bool) → ℕ → ℕ
arc_set case s w n = sum_n n (arc_bit case s w)

-- every one of the first n items is so
abbrev pub every : ℕ → (ℕ → Bool) → Bool
every zero w = true
every (suc n) w = every n w && w n
