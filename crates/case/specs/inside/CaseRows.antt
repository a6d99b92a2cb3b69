-- 10 to 12, both ways: no field of a row is refused exactly where the row is there and its facts of `CaseRules` hold; and so of the whole list (`list_read`).
-- `search` goes through the fields of a row that is spelled out; only an arc's kind, and a range that goes by the kind, needs a case.
-- Assumes nothing.
use Rattle.std.specs.Prelude.{◌≡◌, refl, Bool, true, false, cond, List, ◌↔◌, eqb, ℤ, ◌+ℤ◌, length, Ok}
use Prim.Native.Nat.{ℕ, zero, suc, ◌+◌, ◌<◌, ◌≤◌}
use Rattle.std.proofs.Math.Nat.{add_assoc}
use Rattle.std.proofs.Common.{le_refl}
use native.Mathlib.Omega.{arith}
use borrow.Author.Tests.{eqb-true, eqb-false, ne_eqb, ltb-true, le-leb, lt-leb}
use Rattle.std.proofs.Math.IntN.{pos}
use Rattle.numbers.specs.inside.SignedParts.{ints}
use Rattle.numbers.specs.inside.QuestionLaws.{all_yes, none_no}
use Rattle.numbers.specs.law.Question.{first_no}
use Rattle.numbers.specs.law.Items.{over}
use Rattle.case.specs.law.Layout.{number_at, nodes_of, arcs_of, stations_of, steps_of, time_at, node_at, arc_at, direction_count, state_count}
use Rattle.case.specs.law.Layout.{direction_width, machine_width, machine_count, direction_at, state_at, machine_at, station_end, station_at, case_end}
use Rattle.case.specs.law.Extents.{most_nodes, most_arcs}
use Rattle.case.specs.law.Records.{time_before, arc_of, pipe_of, station_of}
use Rattle.case.specs.law.Field.{field, fields}
use Rattle.case.specs.law.HeadFields.{head_fields, count_fields, tolerance_fields}
use Rattle.case.specs.law.TimeFields.{time_field, time_fields}
use Rattle.case.specs.law.NodeFields.{node_fields, all_node_fields}
use Rattle.case.specs.law.ArcFields.{zeros, end_fields, pipe_fields, least_both_ways, member_fields, compressor_fields, kind_fields, arc_fields, all_arc_fields}
use Rattle.case.specs.law.StationFields.{station_head, direction_fields, state_row_fields, state_fields, machine_fields, part_fields, row_fields}
use Rattle.case.specs.law.StationFields.{station_fields, all_station_fields}
use Rattle.case.specs.law.Leftover.{leftover}
use Rattle.case.specs.law.Judged.{row_questions, list_questions}
use Rattle.case.specs.inside.Counts.{StationsRanged}
use Rattle.case.specs.inside.NodeRows.{NodeFacts, node_read}
use Rattle.case.specs.inside.Places.{end_least, machine_late}
use Rattle.case.specs.claims.Says.{Between}
use Rattle.case.specs.inside.SaysLaws.{leb_says}
use Rattle.case.specs.inside.Exactly.{asks_iff, rising, Read, all_read, append_read, over_read, field_read, fields_read, row_is, row_kept, flat}
use Rattle.case.specs.claims.CaseRules.{CaseHead, TimeKept, CaseArc, CasePipe, CaseArtificial, CaseCompressor, CaseSeven}
use Rattle.case.specs.claims.CaseRules.{CaseStation, CaseDirection, CaseState, CaseMachine, artificial_numbers, further, Zeros, machine_of}

-- ---- what is said of a row, and of the list

abbrev pub StationFacts : List ℤ → ℕ → Type 0
StationFacts case s =
    CaseStation case s
    × (((f : ℕ) → f < (station_of case s).directions → CaseDirection case s f)
    × (((z : ℕ) → z < (station_of case s).states → CaseState case s z)
    × ((m : ℕ) → m < (station_of case s).machines → CaseMachine (machine_of case s m))))

abbrev pub ListFacts : List ℤ → Type 0
ListFacts case =
    CaseHead case
    × (((i : ℕ) → i < steps_of case → TimeKept case i)
    × (((v : ℕ) → v < nodes_of case → NodeFacts case v)
    × (((e : ℕ) → e < arcs_of case → CaseArc case e × CaseSeven case e)
    × (((s : ℕ) → s < stations_of case → StationFacts case s)
    × (length case ≤ case_end case)))))

-- ---- ranges that go by the kind

ways : (k : ℕ) (z : ℤ) → Between (least_both_ways k) z (pos 1) ↔ Between (pos 0) z (pos 1) × (k ≡ 3 → z ≡ pos 1)
ways k z = go (eqb k 3) refl
  where
    go : (b : Bool) → eqb k 3 ≡ b → Between (cond b (pos 1) (pos 0)) z (pos 1) ↔ Between (pos 0) z (pos 1) × (k ≡ 3 → z ≡ pos 1)
    go true e = (λ r. (omega ints, λ h. omega ints), λ r. let q = r.1 (eqb-true k 3 e) in omega ints)
    go false e = (λ r. (r, λ h. absurd (eqb-false k 3 e h)), λ r. r.0)

by_kind : (k : ℕ) {X : Type 0} → (k ≤ 1 → X) → (k ≡ 2 → X) → (3 ≤ k → k ≤ 4 → X) → (5 ≤ k → X) → X
by_kind zero a b c d = a (omega arith)
by_kind (suc zero) a b c d = a (omega arith)
by_kind (suc (suc zero)) a b c d = b refl
by_kind (suc (suc (suc zero))) a b c d = c (omega arith) (omega arith)
by_kind (suc (suc (suc (suc zero)))) a b c d = c (omega arith) (omega arith)
by_kind (suc (suc (suc (suc (suc k))))) a b c d = d (omega arith)

-- the four that every artificial arc has
pub four : {case : List ℤ} {e : ℕ} → CaseSeven case e → 3 ≤ (arc_of case e).kind → CaseArtificial case e
four {case} {e} r h =
    by_kind (arc_of case e).kind (λ k. let f : ⊥ = omega arith in absurd f) (λ k. let f : ⊥ = omega arith in absurd f)
    (λ k l. (r.artificial k l).0) (λ k. (r.compressor k).0)

module _ (case : List ℤ) where
  zeros_read : (e i n : ℕ) → arc_at case e + (4 + i) ≤ length case
      → Read case (zeros case (arc_at case e + (4 + i)) n) (arc_at case e + (4 + i) + n) (Zeros case e i n)
  zeros_read e i n =
      fields_read case (arc_at case e + (4 + i)) n (pos 0) (pos 0) (λ j. further case e (i + j) ≡ pos 0)
      (λ j. (λ r. let q : number_at case (arc_at case e + (4 + i) + j) ≡ pos 0 = omega ints in rw (at j) at q, λ q. rw (at j) (omega ints)))
    where
      at : (j : ℕ) → arc_at case e + (4 + i) + j ≡ arc_at case e + 4 + (i + j)
      at j = omega arith

  -- ---- head

  pub head_read : Read case (head_fields case) 7 (CaseHead case)
  unfolding head_fields count_fields tolerance_fields field most_nodes most_arcs
  head_read = all_read case (head_fields case) (λ a. (omega (arith, ltb-true), search row_is), λ r. search row_kept depth 40)

  -- ---- arcs

  module _ (e : ℕ) where
    ends_read : Read case (end_fields case (arc_at case e)) (arc_at case e + 4) (CaseArc case e)
    unfolding end_fields fields field
    ends_read =
        all_read case (end_fields case (arc_at case e))
        (λ a. let b = simp flat at a in (omega (arith, ltb-true), search row_is), λ r. simp flat (search row_kept depth 40))

    pipe_read : Read case (pipe_fields case (arc_at case e)) (arc_at case e + 11) (CasePipe (pipe_of case e) × Zeros case e 4 3)
    unfolding pipe_fields fields field
    pipe_read =
        let z = zeros case (arc_at case e + 8) 3 in
        all_read case (pipe_fields case (arc_at case e)) (
          λ a. let b = simp flat at a in (omega (arith, ltb-true), (search row_is, ((zeros_read e 4 3 (omega (arith, ltb-true))).0 (none_no z (search))).1)),
          λ r.
              let h = r.0 in
              let p = r.1.0 in
              let a = simp flat at (all_yes z ((zeros_read e 4 3 (omega arith)).1 (omega arith, r.1.1))) in
              simp flat (search row_kept depth 40),
        )

    member_read : Read case (member_fields case (arc_at case e)) (arc_at case e + 8) (CaseArtificial case e)
    unfolding member_fields field
    member_read =
        let w = ways (arc_of case e).kind (artificial_numbers case e).bothways in
        all_read case (member_fields case (arc_at case e)) (
          λ a. let b = w.0 (search row_is) in (omega (arith, ltb-true), search row_is),
          λ r. let b = w.1 (r.1.both_ways, r.1.shortcut) in search row_kept depth 40,
        )

    compressor_read : Read case (compressor_fields case (arc_at case e)) (arc_at case e + 11) (CaseCompressor case e)
    unfolding compressor_fields field
    compressor_read = all_read case (compressor_fields case (arc_at case e)) (λ a. (omega (arith, ltb-true), search row_is), λ r. search row_kept depth 40)

    -- the seven, by the kind
    seven_0 : (arc_of case e).kind ≤ 1 → arc_at case e + 4 ≤ length case → Read case (kind_fields case (arc_at case e)) (arc_at case e + 11) (Zeros case e 0 7)
    unfolding kind_fields
    seven_0 h t = rw (le-leb (arc_of case e).kind 1 h) (rw add_assoc at (zeros_read e 0 7 t))

    seven_2 : (arc_of case e).kind ≡ 2 → Read case (kind_fields case (arc_at case e)) (arc_at case e + 11) (CasePipe (pipe_of case e) × Zeros case e 4 3)
    unfolding kind_fields
    seven_2 h = rw h pipe_read

    seven_3 : 3 ≤ (arc_of case e).kind → (arc_of case e).kind ≤ 4
        → Read case (kind_fields case (arc_at case e)) (arc_at case e + 11) (CaseArtificial case e × Zeros case e 4 3)
    unfolding kind_fields
    seven_3 h l =
        rw (lt-leb (arc_of case e).kind 1 (omega arith), ne_eqb (arc_of case e).kind 2 (λ q. omega arith), le-leb (arc_of case e).kind 4 l)
        (append_read case (member_fields case (arc_at case e)) _ (omega arith) member_read (λ t r. rw add_assoc at (zeros_read e 4 3 t)))

    seven_5 : 5 ≤ (arc_of case e).kind → Read case (kind_fields case (arc_at case e)) (arc_at case e + 11) (CaseArtificial case e × CaseCompressor case e)
    unfolding kind_fields
    seven_5 h =
        rw (lt-leb (arc_of case e).kind 1 (omega arith), ne_eqb (arc_of case e).kind 2 (λ q. omega arith), lt-leb (arc_of case e).kind 4 h)
        (append_read case (member_fields case (arc_at case e)) _ (omega arith) member_read (λ t r. compressor_read))

    seven_read : arc_at case e + 4 ≤ length case → Read case (kind_fields case (arc_at case e)) (arc_at case e + 11) (CaseSeven case e)
    seven_read t = (
      λ y. (
        by_kind (arc_of case e).kind (λ h. ((seven_0 h t).0 y).0) (λ h. ((seven_2 h).0 y).0) (λ h l. ((seven_3 h l).0 y).0) (λ h. ((seven_5 h).0 y).0),
        record {
          zeros = λ h. ((seven_0 h t).0 y).1;
          pipe = λ h. ((seven_2 h).0 y).1;
          artificial = λ h l. ((seven_3 h l).0 y).1;
          compressor = λ h. ((seven_5 h).0 y).1;
        },
      ),
      λ r.
          by_kind (arc_of case e).kind (λ h. (seven_0 h t).1 (r.0, r.1.zeros h)) (λ h. (seven_2 h).1 (r.0, r.1.pipe h))
          (λ h l. (seven_3 h l).1 (r.0, r.1.artificial h l)) (λ h. (seven_5 h).1 (r.0, r.1.compressor h)),
    )

    pub arc_read : Read case (arc_fields case e) (arc_at case e + 11) (CaseArc case e × CaseSeven case e)
    unfolding arc_fields
    arc_read = append_read case (end_fields case (arc_at case e)) _ (omega arith) ends_read (λ t r. seven_read t)

  -- ---- stations

  module _ (s : ℕ) where
    station_head_lem : Read case (station_head case (station_at case s)) (station_at case s + 5) (CaseStation case s)
    unfolding station_head field
    station_head_lem = all_read case (station_head case (station_at case s)) (λ a. (omega (arith, ltb-true), search row_is), λ r. search row_kept depth 40)

    direction_read : (f : ℕ)
        → Read case (direction_fields case (station_at case s) f) (direction_at case (station_at case s) f + direction_width case) (CaseDirection case s f)
    unfolding direction_fields direction_width fields field
    direction_read f =
        all_read case (direction_fields case (station_at case s) f)
        (λ a. let b = simp flat at a in (omega (arith, ltb-true), search row_is), λ r. simp flat (search row_kept depth 40))

    state_read : (z : ℕ) → Read case (state_fields case (station_at case s) z) (state_at case (station_at case s) z + 4) (CaseState case s z)
    unfolding state_fields state_row_fields fields field
    state_read z =
        all_read case (state_fields case (station_at case s) z)
        (λ a. let b = simp flat at a in (omega (arith, ltb-true), search row_is), λ r. simp flat (search row_kept depth 40))

    machine_read : (m : ℕ) → Read case (machine_fields case (station_at case s) m) (machine_at case (station_at case s) (suc m))
        (CaseMachine (machine_of case s m))
    unfolding machine_fields machine_at machine_width field
    machine_read m = all_read case (machine_fields case (station_at case s) m) (λ a. (omega (arith, ltb-true), search row_is), λ r. search row_kept depth 40)

    station_read : Read case (station_fields case s) (station_end case (station_at case s)) (StationFacts case s)
    unfolding station_fields row_fields part_fields direction_at state_at machine_at
    station_read =
        let offset = station_at case s in
        let late = machine_late case offset (machine_count case offset) in
        append_read case (station_head case offset) _ (omega (arith, late)) station_head_lem (λ t r.
        append_read case (over (direction_fields case offset) 0 (direction_count case offset)) _ (omega (arith, late))
        (over_read case (direction_at case offset) (direction_fields case offset) (direction_count case offset) direction_read (λ f. omega arith) (omega arith))
        (λ t r.
        append_read case (over (state_fields case offset) 0 (state_count case offset)) _ late
        (over_read case (state_at case offset) (state_fields case offset) (state_count case offset) state_read (λ z. omega arith) (omega arith)) (λ t r.
        over_read case (machine_at case offset) (machine_fields case offset) (machine_count case offset) machine_read (λ m. omega arith) (omega arith))))

  -- ---- the list

  left_read : case_end case ≤ length case → Read case (leftover case) (case_end case) (length case ≤ case_end case)
  unfolding leftover
  left_read t = let a = asks_iff 12 (case_end case) (leb_says (length case) (case_end case)) in (λ y. (t, a.0 y), λ r. a.1 r.1)

  pub list_read : Read case (list_questions case) (case_end case) (ListFacts case)
  unfolding list_questions row_questions time_fields time_field all_node_fields all_arc_fields all_station_fields node_at arc_at station_at
  list_read =
      let end : ℕ → ℕ = λ s. station_end case (station_at case s) in
      let next : (s : ℕ) → (station_at case (suc s) ≡ end s) × (station_at case s ≤ end s) = λ s. (refl, omega (arith, end_least case (station_at case s))) in
      let begin = rising (station_at case) end next (stations_of case) in
      append_read case (head_fields case) _ (omega arith) head_read (λ t r.
      append_read case (time_fields case) _ (omega arith)
      (over_read case time_at (time_field case) (steps_of case) {A = TimeKept case}
      (λ i. field_read case (time_at i) (time_before case i +ℤ pos 1) (time_before case i +ℤ pos 86400)) (λ i. omega arith) (omega arith)) (λ t r.
      append_read case (all_node_fields case) _ (omega arith)
      (over_read case (node_at case) (node_fields case) (nodes_of case) (node_read case) (λ v. omega arith) (omega arith)) (λ t r.
      append_read case (all_arc_fields case) _ begin
      (over_read case (arc_at case) (arc_fields case) (arcs_of case) arc_read (λ e. omega arith) (omega arith)) (λ t r.
      append_read case (all_station_fields case) (leftover case) (le_refl _)
      (over_read case (station_at case) (station_fields case) (stations_of case) station_read next t) (λ t r. left_read t)))))

  -- what 16 leans on: node sets have only items that a set has room for
  pub list_ranged : first_no (list_questions case) ≡ Ok tt → StationsRanged case
  list_ranged y = record {
    each = λ s p. record { each = λ f q. let d = ((list_read.0 y).1.1.1.1.1.0 s p).1.0 f q in record { entry = d.entry; exit = d.exit } };
  }
