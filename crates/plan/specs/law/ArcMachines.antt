-- 27: "Not compressing: machines 0? Compressing: at most "most machines", and flow ≤ the sum of their Q?"
-- Assumes nothing.
use Rattle.std.specs.Prelude.{Bool, ◌&&◌, List, ℕ, leb, ℤ}
use Rattle.std.specs.Int.Signed.{le_z}
use Rattle.numbers.specs.law.Sets.{count_of}
use Rattle.case.specs.law.Records.{artificial_of}
use Rattle.plan.specs.declared.rows.ArcRow.{ArcRow}
use Rattle.plan.specs.declared.setting.Way.{Way}
use Rattle.plan.specs.declared.setting.Way.TheVariants.{Forward, Backward}
use Rattle.plan.specs.declared.setting.Mode.{Mode}
use Rattle.plan.specs.declared.setting.Mode.TheVariants.{Open, Regulating, Compressing}
use Rattle.plan.specs.declared.setting.Setting.{Setting}
use Rattle.plan.specs.declared.setting.Setting.TheVariants.{Unknown, Off, Active}
use Rattle.plan.specs.law.Compared.{is_zero}
use Rattle.plan.specs.law.PlanRecords.{arc_row}
use Rattle.plan.specs.law.Setting.{setting_in, station_offset}
use Rattle.plan.specs.law.Machines.{machine_flow}

-- the flow in the setting's direction
abbrev pub flow_along : Way → ArcRow → ℤ
flow_along Forward r = r.a
flow_along Backward r = r.b

unfoldable pub machines_carry : List ℤ → List ℤ → ℕ → ℤ → Bool
machines_carry case rows e flow =
    leb (count_of (arc_row case rows e).machines) (artificial_of case e).most
    && le_z flow (machine_flow case (station_offset case e) (arc_row case rows e).machines)

-- an active arc, with the flow in the setting's direction
abbrev pub mode_machines : List ℤ → List ℤ → ℕ → Mode → ℤ → Bool
mode_machines case rows e Open flow = is_zero (arc_row case rows e).machines
mode_machines case rows e Regulating flow = is_zero (arc_row case rows e).machines
mode_machines case rows e Compressing flow = machines_carry case rows e flow

abbrev pub setting_machines : List ℤ → List ℤ → ℕ → Setting → Bool
setting_machines case rows e Unknown = is_zero (arc_row case rows e).machines
setting_machines case rows e Off = is_zero (arc_row case rows e).machines
setting_machines case rows e (Active way mode) = mode_machines case rows e mode (flow_along way (arc_row case rows e))

unfoldable pub machines_used : List ℤ → List ℤ → ℕ → Bool
machines_used case rows e = setting_machines case rows e (setting_in case rows e)
