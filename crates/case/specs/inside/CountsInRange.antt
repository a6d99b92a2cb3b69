-- What the counts are known to be once their questions have let them pass.
-- Assumes nothing.
use Rattle.std.specs.Prelude.{◌≡◌, List, ◌++◌, ℕ, ◌+◌, ◌<◌, ◌≤◌, ℤ, pos, Ok}
use native.Mathlib.Omega.{arith}
use Rattle.std.proofs.Math.Nat.{le_trans}
use Rattle.std.proofs.Common.{leb-true}
use Rattle.numbers.specs.law.Question.{first_no}
use Rattle.numbers.specs.law.Items.{over}
use Rattle.numbers.specs.inside.QuestionLaws.{all_yes}
use Rattle.case.specs.law.Extents.{last_edition, most_nodes, most_arcs, machine_extent}
use Rattle.case.specs.law.Layout.{stations_of, station_at, direction_count, state_count, machine_count, machine_width, machine_at}
use Rattle.case.specs.law.HeadFields.{count_fields, tolerance_fields, head_fields}
use Rattle.case.specs.law.TimeFields.{time_fields}
use Rattle.case.specs.law.NodeFields.{all_node_fields}
use Rattle.case.specs.law.ArcFields.{all_arc_fields}
use Rattle.case.specs.law.StationFields.{station_head, part_fields, row_fields, station_fields, all_station_fields}
use Rattle.case.specs.law.StationFields.{direction_fields, state_fields, machine_fields}
use Rattle.case.specs.law.Leftover.{leftover}
use Rattle.case.specs.law.ArcEnds.{all_arc_ends}
use Rattle.case.specs.law.OneStation.{all_one_station}
use Rattle.case.specs.law.StationSize.{station_size, all_station_sizes}
use Rattle.case.specs.law.Judged.{row_questions, list_questions, early_rules}
use Rattle.case.specs.inside.FieldLaws.{first_yes, second_yes, item_yes, field_yes, field_then, count_most, count_least}
use Rattle.case.specs.inside.Places.{nodes_fit, arcs_fit}
use Rattle.case.specs.inside.Counts.{Counted, StationCounted, StationsCounted, MachinesNarrow, StationsNarrow, Sized}

module _ (case : List ℤ) where
  -- ---- the head

  pub head_counted : first_no (head_fields case) ≡ Ok tt → Counted case
  unfolding head_fields count_fields
  head_counted e =
      let r = field_then case 0 (pos 1) (pos last_edition) _ (first_yes (count_fields case) (tolerance_fields case) e) in
      let n = field_then case 1 (pos 1) (pos (most_nodes case)) _ r.1 in
      let a = field_then case 2 (pos 0) (pos (most_arcs case)) _ n.1 in
      let s = field_then case 3 (pos 0) (pos 8) _ a.1 in
      let k = field_yes case 4 (pos 1) (pos 48) s.1 in
      record {
        in_limit = count_most n.0;
        nodes = le_trans (count_most n.0) (nodes_fit case);
        some_node = count_least n.0;
        arcs = le_trans (count_most a.0) (arcs_fit case);
        stations = count_most s.0;
        steps = count_most k;
        some_step = count_least k;
      }

  -- ---- a station's first row

  pub station_counted : (offset : ℕ) → first_no (station_head case offset) ≡ Ok tt → StationCounted case offset
  unfolding station_head
  station_counted offset e =
      let f = field_then case offset (pos 1) (pos 8) _ e in
      let z = field_then case (offset + 1) (pos 1) (pos 16) _ f.1 in
      let m = field_then case (offset + 2) (pos 0) (pos 12) _ z.1 in
      record {
        directions = count_most f.0;
        some_direction = count_least f.0;
        states = count_most z.0;
        some_state = count_least z.0;
        machines = count_most m.0;
      }

  pub row_counted : (offset : ℕ) → first_no (row_fields case offset) ≡ Ok tt → StationCounted case offset
  unfolding row_fields
  row_counted offset e = station_counted offset (first_yes (station_head case offset) (part_fields case offset) e)

  -- ---- a station's machines

  pub machine_narrow : (offset m : ℕ) → first_no (machine_fields case offset m) ≡ Ok tt → machine_width case (machine_at case offset m) ≤ machine_extent
  unfolding machine_width
  machine_narrow offset m e = omega arith

  pub row_narrow : (offset : ℕ) → first_no (row_fields case offset) ≡ Ok tt → MachinesNarrow case offset
  unfolding row_fields part_fields
  row_narrow offset e =
      let d = second_yes (station_head case offset) (part_fields case offset) e in
      let z = second_yes (over (direction_fields case offset) 0 (direction_count case offset)) _ d in
      let y = second_yes (over (state_fields case offset) 0 (state_count case offset)) _ z in
      record { each = λ m l. machine_narrow offset m (item_yes (machine_fields case offset) (machine_count case offset) y m l) }

  -- ---- the list's groups

  module _ (e : first_no (list_questions case) ≡ Ok tt) where
    pub list_counted : Counted case
    unfolding list_questions
    list_counted = head_counted (first_yes (head_fields case) (row_questions case) e)

    rows_yes : first_no (row_questions case) ≡ Ok tt
    unfolding list_questions
    rows_yes = second_yes (head_fields case) (row_questions case) e

    after_times : first_no (all_node_fields case ++ (all_arc_fields case ++ (all_station_fields case ++ leftover case))) ≡ Ok tt
    unfolding row_questions
    after_times = second_yes (time_fields case) _ rows_yes

    pub nodes_yes : first_no (all_node_fields case) ≡ Ok tt
    nodes_yes = first_yes (all_node_fields case) _ after_times

    pub arcs_yes : first_no (all_arc_fields case) ≡ Ok tt
    arcs_yes = first_yes (all_arc_fields case) _ (second_yes (all_node_fields case) _ after_times)

    after_arcs : first_no (all_station_fields case ++ leftover case) ≡ Ok tt
    after_arcs = second_yes (all_arc_fields case) _ (second_yes (all_node_fields case) _ after_times)

    pub stations_yes : first_no (all_station_fields case) ≡ Ok tt
    stations_yes = first_yes (all_station_fields case) _ after_arcs

    pub station_yes : (s : ℕ) → s < stations_of case → first_no (row_fields case (station_at case s)) ≡ Ok tt
    unfolding all_station_fields station_fields
    station_yes s p = item_yes (station_fields case) (stations_of case) stations_yes s p

    pub list_stations : StationsCounted case
    list_stations = record { each = λ s p. row_counted (station_at case s) (station_yes s p) }

    pub list_narrow : StationsNarrow case
    list_narrow = record { each = λ s p. row_narrow (station_at case s) (station_yes s p) }

  -- ---- 15

  pub rules_sized : first_no (early_rules case) ≡ Ok tt → Sized case
  unfolding early_rules all_station_sizes station_size
  rules_sized e =
      let y = first_yes (all_station_sizes case) _ (second_yes (all_one_station case) _ (second_yes (all_arc_ends case) _ e)) in
      record { each = λ s p. leb-true _ _ (all_yes (station_size case s) (item_yes (station_size case) (stations_of case) y s p)).0 }

-- rules: what 10 to 12 let pass
pub ruleset list_laws = (list_counted, list_stations, list_narrow)
