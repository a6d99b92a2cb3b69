-- Net flows in an array, gathered arc by arc.
use Rattle.std.specs.Prelude.{List, ℕ, ◌<◌, eqb, ℤ, ◌+ℤ◌, ◌-ℤ◌}
use Rattle.numbers.specs.law.Sums.{only}
use Rattle.numbers.specs.inside.SignedBounds.{Bounded}
use Rattle.case.specs.law.Extents.{node_capacity}
use Rattle.case.specs.law.Layout.{number_at}

-- the net flow at node v with one arc more, which takes `out` from node `from` and brings `into` to node `to`
unfoldable pub moved_at : List ℤ → ℕ → ℕ → ℤ → ℤ → ℕ → ℤ
moved_at net from to out into v = number_at net v +ℤ only (eqb from v) out -ℤ only (eqb to v) into

-- net flows that have room for one arc more
pub record NetSized (net : List ℤ) : Type 0 where
  pub each : (v : ℕ) → v < node_capacity → Bounded (number_at net v) 1000000000000
