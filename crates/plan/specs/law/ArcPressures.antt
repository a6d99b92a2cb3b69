-- 26: "Pressures: open valve or active shortcut equal; regulator always from ≥ to; regulating in ≥ out; compressing in ≤ out, out ≤ out bound, and
-- 1,000 × out ≤ p0 of the in end × (1,000 + the sum of (R - 1,000) over its machines)?" Of this last, document 02, P1: "In 26 the product is taken with the
-- in end's pressure in the same step." So p0 does not occur here.
-- Assumes nothing.
use Rattle.std.specs.Prelude.{Bool, true, cond, ◌&&◌, List, ℕ, eqb, ℤ, pos, ◌+ℤ◌, ◌*ℤ◌}
use Rattle.std.specs.Int.Signed.{le_z}
use Rattle.case.specs.declared.records.Node.{Node}
use Rattle.case.specs.declared.records.Artificial.{Artificial}
use Rattle.case.specs.law.Records.{node_of, arc_of, artificial_of}
use Rattle.plan.specs.declared.setting.Mode.{Mode}
use Rattle.plan.specs.declared.setting.Mode.TheVariants.{Open, Regulating, Compressing}
use Rattle.plan.specs.declared.setting.Setting.{Setting}
use Rattle.plan.specs.declared.setting.Setting.TheVariants.{Unknown, Off, Active}
use Rattle.plan.specs.law.Compared.{same, is_zero}
use Rattle.plan.specs.law.PlanRecords.{pressure_in, arc_row}
use Rattle.plan.specs.law.Setting.{setting_in, in_end, out_end, station_offset}
use Rattle.plan.specs.law.Machines.{machine_gain}

-- the out bound of an arc whose out end is the node `out` in the step: "0 stands for acthigh of the out end in that step" (document 02, P8)
abbrev pub out_bound : Artificial → Node → ℤ
out_bound x out = cond (is_zero x.outbound) out.acthigh x.outbound

-- the ratio of a compressing arc, in thousandths
abbrev pub ratio_of : List ℤ → List ℤ → ℕ → ℤ
ratio_of case rows e = pos 1000 +ℤ machine_gain case (station_offset case e) (arc_row case rows e).machines

-- "the product is taken with the in end's pressure in the same step" (document 02, P1), in end `u` and out end `w`
unfoldable pub reach_kept : List ℤ → List ℤ → ℕ → ℕ → ℕ → Bool
reach_kept case rows e u w = le_z (pos 1000 *ℤ pressure_in rows w) (pressure_in rows u *ℤ ratio_of case rows e)

-- compressing from the node `u` to the node `w`
unfoldable pub compression_kept : List ℤ → List ℤ → ℕ → ℕ → ℕ → ℕ → Bool
compression_kept case rows i e u w =
    le_z (pressure_in rows u) (pressure_in rows w)
    && (le_z (pressure_in rows w) (out_bound (artificial_of case e) (node_of case w i))
    && reach_kept case rows e u w)

-- an active arc from the node `u` to the node `w`
abbrev pub mode_pressures : List ℤ → List ℤ → ℕ → ℕ → Mode → ℕ → ℕ → Bool
mode_pressures case rows i e Open u w = same (pressure_in rows u) (pressure_in rows w)
mode_pressures case rows i e Regulating u w = le_z (pressure_in rows w) (pressure_in rows u)
mode_pressures case rows i e Compressing u w = compression_kept case rows i e u w

abbrev pub setting_pressures : List ℤ → List ℤ → ℕ → ℕ → Setting → Bool
setting_pressures case rows i e Unknown = true
setting_pressures case rows i e Off = true
setting_pressures case rows i e (Active way mode) = mode_pressures case rows i e mode (in_end way (arc_of case e)) (out_end way (arc_of case e))

-- 26, where a regulator has no setting to go by
unfoldable pub pressures_kept : List ℤ → List ℤ → ℕ → ℕ → Bool
pressures_kept case rows i e =
    cond (eqb (arc_of case e).kind 1)
    (le_z (pressure_in rows (arc_of case e).to) (pressure_in rows (arc_of case e).from))
    (setting_pressures case rows i e (setting_in case rows e))
