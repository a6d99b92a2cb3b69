-- Sums over the machines of a station that a set names. `offset` is the index of the station's first number.
-- Assumes nothing.
use Rattle.std.specs.Prelude.{List, ℕ, ℤ, pos, ◌-ℤ◌}
use Rattle.numbers.specs.law.Sets.{member_of}
use Rattle.numbers.specs.law.Sums.{sum, only}
use Rattle.case.specs.law.Layout.{machine_count}
use Rattle.case.specs.law.Records.{machine_row}

-- a machine's flow Q, if the set names it
unfoldable pub flow_part : List ℤ → ℕ → ℤ → ℕ → ℤ
flow_part case offset set m = only (member_of set m) (machine_row case offset m).flow

-- the sum of their Q
unfoldable pub machine_flow : List ℤ → ℕ → ℤ → ℤ
machine_flow case offset set = sum (machine_count case offset) (flow_part case offset set)

-- what a machine's ratio R is above 1,000, if the set names it
unfoldable pub gain_part : List ℤ → ℕ → ℤ → ℕ → ℤ
gain_part case offset set m = only (member_of set m) ((machine_row case offset m).ratio -ℤ pos 1000)

-- the sum of (R - 1,000) over its machines
unfoldable pub machine_gain : List ℤ → ℕ → ℤ → ℤ
machine_gain case offset set = sum (machine_count case offset) (gain_part case offset set)
