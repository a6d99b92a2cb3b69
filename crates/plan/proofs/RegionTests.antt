-- A search for the lowest item of a set goes on from item to item, and a yes to 40 and 41 gives what the figures need.
use Rattle.case.specs.law.Extents.{set_room}
use Rattle.plan.proofs.Common.{◌≡◌, false, arith, ℤ}
use Prim.Native.Nat.{ℕ, suc, ◌+◌, ◌-◌, ◌<◌}
use native.Mathlib.Numerals.{add-one}
use Rattle.numbers.specs.law.Sets.{member_of}
use Rattle.plan.specs.law.Ledger.{lowest_of}
use Rattle.plan.specs.inside.LedgerVerdict.{nodes_kept, times_kept}
use Rattle.plan.specs.inside.LedgerAnswer.{in_order}
use Rattle.plan.specs.inside.RegionSet.{nodes_counted}

count_down : (v : ℕ) → v < set_room → set_room - v ≡ suc (set_room - (v + 1))
count_down v l = omega arith

pub lowest_on : (set : ℤ) (v : ℕ) → v < set_room → member_of set v ≡ false → lowest_of set v (set_room - v) ≡ lowest_of set (v + 1) (set_room - (v + 1))
lowest_on set v l e = rw (count_down v l, e, ← add-one v)

-- rules: what a yes to 40 and 41 gives
pub ruleset region_kept = (nodes_kept, times_kept, in_order, nodes_counted)
