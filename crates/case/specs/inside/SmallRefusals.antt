-- Every refusal of a case has a small number, step and place: a place is a field's index, an arc, a node or a station, and rows begin early.
-- Assumes nothing.
use Rattle.std.specs.Prelude.{◌≡◌, Bool, List, ◌++◌, eqb, leb, ℤ, pos, Ok}
use Rattle.std.proofs.Math.Bool.{true, false, cond}
use Prim.Native.Nat.{ℕ, zero, suc, ◌+◌, ◌*◌, ◌≤◌, ◌<◌}
use native.Mathlib.Omega.{arith}
use borrow.Author.Rules.{rules}
use Rattle.numbers.specs.law.Question.{first_no}
use Rattle.numbers.specs.law.Items.{over}
use Rattle.numbers.specs.inside.SmallRefusals.{Small, AllSmall, small_append, small_over, all_small, all_append, all_over}
use Rattle.case.specs.law.Layout.{nodes_of, arcs_of, stations_of, steps_of, node_at, arc_at, station_at}
use Rattle.case.specs.law.Layout.{count_at, bounds_in, direction_count, state_count, machine_count}
use Rattle.case.specs.law.Extents.{station_extent, arcs_extent, stations_extent, case_extent}
use Rattle.case.specs.law.Field.{field, fields, next_field}
use Rattle.case.specs.law.HeadFields.{head_fields, count_fields, tolerance_fields}
use Rattle.case.specs.law.ArcFields.{all_arc_fields, arc_fields, end_fields, kind_fields, pipe_fields, member_fields, compressor_fields}
use Rattle.case.specs.law.StationFields.{all_station_fields, station_fields, row_fields, part_fields, station_head}
use Rattle.case.specs.law.StationFields.{direction_fields, state_fields, state_row_fields, machine_fields}
use Rattle.case.specs.inside.FieldLaws.{zero_add, item_yes}
use Rattle.case.specs.inside.NodeRows.{demands_are}
use Rattle.case.specs.inside.Counts.{Counted, StationCounted}
use Rattle.case.specs.inside.CountsInRange.{head_counted, station_counted, row_counted, machine_narrow, row_narrow, list_counted}
use Rattle.case.specs.inside.Places.{node_early, arc_early, direction_early, state_early, machine_early, end_most}
use Rattle.case.specs.law.Leftover.{leftover}
use Rattle.case.specs.law.ArcEnds.{all_arc_ends, arc_ends}
use Rattle.case.specs.law.OneStation.{all_one_station, one_station}
use Rattle.case.specs.law.StationSize.{all_station_sizes, station_size}
use Rattle.case.specs.law.Directions.{all_direction_sets, direction_sets}
use Rattle.case.specs.law.States.{all_state_sets, state_sets}
use Rattle.case.specs.law.Judged.{case_questions, list_questions, row_questions, early_rules, rule_questions}
use Rattle.case.specs.law.TimeFields.{time_fields, time_field}
use Rattle.case.specs.law.NodeFields.{all_node_fields, node_fields, node_row_fields, node_head, bound_fields}

-- above every index of a case
abbrev pub limit : ℕ
limit = case_extent + station_extent

-- ---- the fields of one row: a field's place is its index, which is small where the row begins early

module _ (case : List ℤ) where
  demands_small : (i n : ℕ) (low high : ℤ) → i + n ≤ limit → AllSmall limit (fields case i n low high)
  unfolding fields field
  demands_small i n low high h = all_over limit (next_field case i low high) 0 n (λ j l. search rules)

  head_small : (offset : ℕ) → offset ≤ arcs_extent → AllSmall limit (node_head case offset)
  unfolding node_head field
  head_small offset h = search rules

  bounds_small : (offset : ℕ) → offset ≤ arcs_extent → AllSmall limit (bound_fields case (offset + bounds_in case 0))
  unfolding bound_fields bounds_in fields field
  bounds_small offset h = search rules

  ends_small : (offset : ℕ) → offset ≤ stations_extent → AllSmall limit (end_fields case offset)
  unfolding end_fields fields field
  ends_small offset h = search rules

  kind_small : (offset : ℕ) → offset ≤ stations_extent → AllSmall limit (kind_fields case offset)
  unfolding kind_fields pipe_fields member_fields compressor_fields fields field
  kind_small offset h = go (leb (count_at case offset) 1) (eqb (count_at case offset) 2) (leb (count_at case offset) 4)
    where
      go : (a b c : Bool) → AllSmall limit (cond a (fields case (offset + 4) 7 (pos 0) (pos 0)) (cond b (pipe_fields case offset)
          (member_fields case offset ++ cond c (fields case (offset + 8) 3 (pos 0) (pos 0)) (compressor_fields case offset))))
      go true b c = search rules
      go false true c = search rules
      go false false true = search rules
      go false false false = search rules

  -- a station's parts, each of few rows
  module _ (offset : ℕ) (h : offset ≤ case_extent) (d : StationCounted case offset) where
    directions_small : AllSmall limit (over (direction_fields case offset) 0 (direction_count case offset))
    unfolding direction_fields fields field
    directions_small = all_over limit (direction_fields case offset) 0 (direction_count case offset) (λ f l.
        let e = direction_early case offset (0 + f) (omega (arith, l, d.directions)) in search rules)

    states_small : AllSmall limit (over (state_fields case offset) 0 (state_count case offset))
    unfolding state_fields state_row_fields fields field
    states_small = all_over limit (state_fields case offset) 0 (state_count case offset) (λ z l.
        let e = state_early case offset d (0 + z) (omega (arith, l, d.states)) in search rules)

    -- a machine's row, where those before it have no "no"
    machine_small : (m : ℕ) → m < machine_count case offset → ((j : ℕ) → j < m → first_no (machine_fields case offset j) ≡ Ok tt)
        → Small limit (first_no (machine_fields case offset m))
    unfolding machine_fields field
    machine_small m l before =
        let e = machine_early case offset d m (λ j k. machine_narrow case offset j (before j k)) in
        let w = d.machines in
        all_small limit (machine_fields case offset m) (search rules)

    machines_small : Small limit (first_no (over (machine_fields case offset) 0 (machine_count case offset)))
    machines_small = small_over limit (machine_fields case offset) 0 (machine_count case offset) (λ m l before.
        rw (zero_add m) (machine_small m l (λ j k. rw (zero_add j) at (before j k))))

    parts_small : Small limit (first_no (part_fields case offset))
    unfolding part_fields
    parts_small =
        let directions = over (direction_fields case offset) 0 (direction_count case offset) in
        let states = over (state_fields case offset) 0 (state_count case offset) in
        small_append limit directions _ (all_small limit directions directions_small) (λ f.
        small_append limit states _ (all_small limit states states_small) (λ z. machines_small))

  -- ---- all rows, once the counts before have passed

  module _ (c : Counted case) where
    times_small : AllSmall limit (time_fields case)
    unfolding time_fields time_field field
    times_small = all_over limit (time_field case) 0 (steps_of case) (λ i l. search rules)

    nodes_small : AllSmall limit (all_node_fields case)
    unfolding all_node_fields node_fields node_row_fields
    nodes_small = all_over limit (node_fields case) 0 (nodes_of case) (λ v l.
        let offset = node_at case (0 + v) in
        let r = node_early case c (0 + v) (omega (arith, c.nodes)) in
        all_append limit (node_head case offset) _ (head_small offset r)
        (all_append limit (bound_fields case (offset + bounds_in case 0)) _ (bounds_small offset r)
        (rw (demands_are case offset (steps_of case)) (demands_small _ _ _ _ (omega (arith, c.steps))))))

    arcs_small : AllSmall limit (all_arc_fields case)
    unfolding all_arc_fields arc_fields
    arcs_small = all_over limit (arc_fields case) 0 (arcs_of case) (λ e l.
        let r = arc_early case c (0 + e) (omega (arith, c.arcs)) in
        all_append limit (end_fields case (arc_at case (0 + e))) _ (ends_small _ (omega arith)) (kind_small _ (omega arith)))

    -- where the stations before s have no "no"
    station_early : (s : ℕ) → ((m : ℕ) → m < s → first_no (row_fields case (station_at case m)) ≡ Ok tt)
        → station_at case s ≤ stations_extent + s * station_extent
    unfolding station_at
    station_early zero h = omega (arith, arc_early case c (arcs_of case) c.arcs)
    station_early (suc s) h =
        let offset = station_at case s in
        let y = h s (omega arith) in
        omega (arith, end_most case offset (row_counted case offset y) (row_narrow case offset y), station_early s (λ m l. h m (omega arith)))

    -- a station's rows, where those before it have no "no"
    station_small : (s : ℕ) → s < stations_of case → ((m : ℕ) → m < s → first_no (station_fields case m) ≡ Ok tt)
        → Small limit (first_no (station_fields case s))
    unfolding station_fields row_fields station_head field
    station_small s h before =
        let offset = station_at case s in
        let r = station_early s before in
        let low : offset ≤ case_extent = omega (arith, r, h, c.stations) in
        small_append limit (station_head case offset) (part_fields case offset) (all_small limit (station_head case offset) (search rules))
        (λ e. parts_small offset low (station_counted case offset e))

    stations_small : Small limit (first_no (all_station_fields case))
    unfolding all_station_fields
    stations_small = small_over limit (station_fields case) 0 (stations_of case) (λ s l before.
        rw (zero_add s) (station_small s l (λ m k. rw (zero_add m) at (before m k))))

    leftover_small : first_no (all_station_fields case) ≡ Ok tt → Small limit (first_no (leftover case))
    unfolding all_station_fields station_fields leftover
    leftover_small e =
        let r = station_early (stations_of case) (item_yes (station_fields case) (stations_of case) e) in
        all_small limit (leftover case) (omega arith, omega arith, omega (arith, r, c.stations), omega arith, tt)

    rows_small : Small limit (first_no (row_questions case))
    unfolding row_questions
    rows_small =
        small_append limit (time_fields case) _ (all_small limit (time_fields case) times_small) (λ t.
        small_append limit (all_node_fields case) _ (all_small limit (all_node_fields case) nodes_small) (λ n.
        small_append limit (all_arc_fields case) _ (all_small limit (all_arc_fields case) arcs_small) (λ a.
        small_append limit (all_station_fields case) _ stations_small leftover_small)))

    -- 13 to 17: an arc, a node or a station
    rules_small : AllSmall limit (rule_questions case)
    unfolding rule_questions early_rules all_arc_ends arc_ends all_one_station one_station all_station_sizes station_size
        all_direction_sets direction_sets all_state_sets state_sets
    rules_small =
        all_append limit (early_rules case) _
        (all_append limit (all_arc_ends case) _ (all_over limit (arc_ends case) 0 (arcs_of case) (λ e l. search rules))
        (all_append limit (all_one_station case) _ (all_over limit (one_station case) 0 (nodes_of case) (λ v l. search rules))
        (all_append limit (all_station_sizes case) _ (all_over limit (station_size case) 0 (stations_of case) (λ s l. search rules))
        (all_over limit (direction_sets case) 0 (stations_of case) (λ s l. search rules)))))
        (all_over limit (state_sets case) 0 (stations_of case) (λ s l. search rules))

  -- Every refusal of a case is small.
  pub case_small : Small limit (first_no (case_questions case))
  unfolding case_questions list_questions head_fields count_fields tolerance_fields field
  case_small =
      small_append limit (list_questions case) _
      (small_append limit (head_fields case) (row_questions case) (all_small limit (head_fields case) (search rules)) (λ e. rows_small (head_counted case e)))
      (λ e. all_small limit (rule_questions case) (rules_small (list_counted case e)))
