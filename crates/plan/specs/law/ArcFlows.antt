-- 24 and 25, of one arc in one step. Kinds: 0 valve, 1 regulator, 2 pipe, 3 shortcut, 4 regulating, 5 compressor, 6 combined.
-- Assumes nothing.
use Rattle.std.specs.Prelude.{Bool, true, false, cond, not, ◌&&◌, ◌||◌, ℕ, eqb, leb, ℤ, pos, ◌-ℤ◌}
use Rattle.std.specs.Int.Signed.{le_z}
use Rattle.numbers.specs.law.Sets.{subset_of}
use Rattle.case.specs.declared.records.Arc.{Arc}
use Rattle.case.specs.declared.records.Artificial.{Artificial}
use Rattle.plan.specs.declared.rows.ArcRow.{ArcRow}
use Rattle.plan.specs.declared.setting.Way.TheVariants.{Forward, Backward}
use Rattle.plan.specs.declared.setting.Setting.{Setting}
use Rattle.plan.specs.declared.setting.Setting.TheVariants.{Unknown, Off, Active}
use Rattle.plan.specs.law.Compared.{within, is_zero}
use Rattle.plan.specs.law.Setting.{setting_of}

-- ---- 24: "Are flows 0..qmax (pipe -qmax..qmax), unused numbers 0 (regulator b; machines of kinds 0 to 4), setting known and, on a one-way arc, not backward,
-- and machines within the arc's set?"

abbrev pub least_flow : Arc → ℤ
least_flow c = cond (eqb c.kind 2) (pos 0 -ℤ c.qmax) (pos 0)

-- the backward flow of a regulator is unused
abbrev pub most_backward : Arc → ℤ
most_backward c = cond (eqb c.kind 1) (pos 0) c.qmax

unfoldable pub flows_kept : Arc → ArcRow → Bool
flows_kept c r = within (least_flow c) r.a c.qmax && within (least_flow c) r.b (most_backward c)

-- "A negative number is no set."
unfoldable pub machines_within : ℕ → ℤ → ℤ → Bool
machines_within kind own machines = cond (leb kind 4) (is_zero machines) (le_z (pos 0) machines && subset_of machines own)

-- known, and not backward on a one-way arc
abbrev pub setting_allowed : Bool → Setting → Bool
setting_allowed both_ways Unknown = false
setting_allowed both_ways Off = true
setting_allowed both_ways (Active Forward mode) = true
setting_allowed both_ways (Active Backward mode) = both_ways

unfoldable pub arc_numbers_kept : Arc → Artificial → ArcRow → Bool
arc_numbers_kept c x r =
    flows_kept c r
    && (setting_allowed (leb 1 x.bothways) (setting_of c.kind r.setting)
    && machines_within c.kind x.machines r.machines)

-- ---- 25: "Is there no flow on a shut or off arc, and none against an artificial arc's setting?"

-- by the setting; an open valve may have both flows
abbrev pub no_flow_against : Bool → Setting → ArcRow → Bool
no_flow_against artificial Unknown r = true
no_flow_against artificial Off r = is_zero r.a && is_zero r.b
no_flow_against artificial (Active Forward mode) r = not artificial || is_zero r.b
no_flow_against artificial (Active Backward mode) r = not artificial || is_zero r.a

-- a regulator and a pipe are never shut or off
unfoldable pub flow_allowed : Arc → ArcRow → Bool
flow_allowed c r =
    cond (leb 1 c.kind && leb c.kind 2) true
    (no_flow_against (leb 3 c.kind) (setting_of c.kind r.setting) r)
