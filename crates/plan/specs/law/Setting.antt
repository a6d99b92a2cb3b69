-- "Setting: valve 0 shut, 1 open; kinds 3 to 5: 0 off, 1 forward, 2 backward; combined: 0 off, 1 and 2 regulating forward and backward,
-- 3 and 4 compressing forward and backward; else 0." A number that stands for nothing is unknown, which 24 refuses.
-- Assumes nothing.
use Rattle.std.specs.Prelude.{cond, List, ℕ, ◌-◌, eqb, leb, ℤ, pos}
use Rattle.std.specs.Int.Signed.{le_z}
use Rattle.numbers.specs.law.Signed.{pos_part}
use Rattle.case.specs.declared.records.Arc.{Arc}
use Rattle.case.specs.law.Layout.{station_at}
use Rattle.case.specs.law.Records.{arc_of, artificial_of}
use Rattle.plan.specs.declared.setting.Way.{Way}
use Rattle.plan.specs.declared.setting.Way.TheVariants.{Forward, Backward}
use Rattle.plan.specs.declared.setting.Mode.{Mode}
use Rattle.plan.specs.declared.setting.Mode.TheVariants.{Open, Regulating, Compressing}
use Rattle.plan.specs.declared.setting.Setting.{Setting}
use Rattle.plan.specs.declared.setting.Setting.TheVariants.{Unknown, Off, Active}
use Rattle.plan.specs.law.PlanRecords.{arc_row}

-- 1 forward, 2 backward
unfoldable pub directed : Mode → ℕ → Setting
directed mode n = cond (eqb n 1) (Active Forward mode) (cond (eqb n 2) (Active Backward mode) Unknown)

-- 1 and 2 regulating, 3 and 4 compressing
unfoldable pub combined_of : ℕ → Setting
combined_of n = cond (leb n 2) (directed Regulating n) (directed Compressing (n - 2))

-- an open valve has no direction of its own: it stands as forward
unfoldable pub valve_of : ℕ → Setting
valve_of n = cond (eqb n 1) (Active Forward Open) Unknown

-- a setting above 0, by the kind
unfoldable pub active_of : ℕ → ℕ → Setting
active_of kind n =
    cond (eqb kind 0) (valve_of n)
    (cond (leb kind 2) Unknown
    (cond (eqb kind 3) (directed Open n)
    (cond (eqb kind 4) (directed Regulating n)
    (cond (eqb kind 5) (directed Compressing n) (combined_of n)))))

unfoldable pub setting_of : ℕ → ℤ → Setting
setting_of kind number =
    cond (le_z (pos 0) number)
    (cond (eqb (pos_part number) 0) Off (active_of kind (pos_part number)))
    Unknown

-- the setting of arc e in a step
abbrev pub setting_in : List ℤ → List ℤ → ℕ → Setting
setting_in case rows e = setting_of (arc_of case e).kind (arc_row case rows e).setting

-- where the rows of the arc's station begin
abbrev pub station_offset : List ℤ → ℕ → ℕ
station_offset case e = station_at case (artificial_of case e).station

-- "In and out ends follow the setting: forward, in is from."
abbrev pub in_end : Way → Arc → ℕ
in_end Forward c = c.from
in_end Backward c = c.to

abbrev pub out_end : Way → Arc → ℕ
out_end Forward c = c.to
out_end Backward c = c.from
