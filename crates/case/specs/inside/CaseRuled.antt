-- 13 to 17, both ways: none is answered no exactly where its facts of `CaseRules` hold. Sets go by their items (`SaysLaws`), and an item of a set of
-- a station's arcs is one of them. That node sets have only items that a set has room for, which 16 leans on, is known from 11.
-- Assumes nothing.
use Rattle.std.specs.Prelude.{◌≡◌, Bool, List, ◌↔◌, ℕ, ◌<◌, ◌≤◌, ℤ, pos, Ok}
use Rattle.std.proofs.Math.Bool.{true}
use Rattle.std.proofs.Common.{⊎_elim}
use native.Mathlib.Omega.{arith}
use borrow.Author.Tests.{leb-true, eqb-false, ne_eqb, not-true}
use Rattle.numbers.specs.inside.SignedParts.{ints, size, taken}
use Rattle.numbers.specs.law.Question.{first_no}
use Rattle.numbers.specs.law.Sets.{member_of}
use Rattle.case.specs.law.Extents.{set_room}
use Rattle.case.specs.law.Layout.{nodes_of, arcs_of, stations_of, station_at}
use Rattle.case.specs.law.Records.{arc_of, artificial_of, station_of, direction_of, state_of}
use Rattle.case.specs.law.StationFields.{first_items}
use Rattle.case.specs.law.StationArcs.{belongs, station_arcs, every}
use Rattle.case.specs.law.StationNodes.{plain, plain_nodes, fence_node}
use Rattle.case.specs.law.ArcEnds.{arc_ends, all_arc_ends}
use Rattle.case.specs.law.OneStation.{in_station, one_station, all_one_station}
use Rattle.case.specs.law.StationSize.{station_size, all_station_sizes}
use Rattle.case.specs.law.Directions.{only_fence, sets_kept, direction_kept, direction_sets, all_direction_sets}
use Rattle.case.specs.law.States.{state_kept, machines_kept, active_at_start, start_kept, station_kept, state_sets, all_state_sets}
use Rattle.case.specs.law.Judged.{early_rules, rule_questions}
use Rattle.case.specs.inside.FieldLaws.{and_first}
use Rattle.case.specs.inside.SetLaws.{end_in_station, station_end_of, end_in_plain, plain_end_of, only_members, at_only}
use Rattle.case.specs.claims.Says.{Says, Between}
use Rattle.case.specs.inside.SaysLaws.{means, then, both, when, all, flag_says, leb_says, disjoint_says, first_says, one_says}
use Rattle.case.specs.inside.ArcItems.{on_says, off_says}
use Rattle.case.specs.inside.Exactly.{asks_iff, append_iff, over_iff}
use Rattle.case.specs.inside.CaseRows.{ListFacts, four}
use Rattle.case.specs.claims.CaseRules.{Ends, head_numbers, arc_numbers, artificial_numbers, station_numbers, CaseDirection, InStation, FenceNode, Rule16}
use Rattle.case.specs.claims.CaseRules.{Rule17State, Rule17Arc}

-- what is said of a station by 17, and of all arcs, nodes and stations
abbrev pub StationRuled : List ℤ → ℕ → Type 0
StationRuled case s =
    ((z : ℕ) → z < (station_of case s).states → Rule17State case s z)
    × ((e : ℕ) → e < arcs_of case → belongs case s e ≡ true → Rule17Arc case s e)

abbrev ArcRuled : List ℤ → ℕ → Type 0
ArcRuled case e = (arc_of case e).from ≡ (arc_of case e).to → ⊥

abbrev NodeRuled : List ℤ → ℕ → Type 0
NodeRuled case v = (s t : ℕ) → s < stations_of case → t < stations_of case → InStation case s v → InStation case t v → s ≡ t

abbrev pub RuleFacts : List ℤ → Type 0
RuleFacts case =
    (((e : ℕ) → e < arcs_of case → ArcRuled case e)
    × (((v : ℕ) → v < nodes_of case → NodeRuled case v)
    × (((s : ℕ) → s < stations_of case → station_arcs case s ≤ 30)
    × ((s : ℕ) → s < stations_of case → (f : ℕ) → f < (station_of case s).directions → Rule16 case s f))))
    × ((s : ℕ) → s < stations_of case → StationRuled case s)

module _ (case : List ℤ) (l : ListFacts case) where
  -- ---- nodes: a node set has room for every node that an arc ends at

  room : {w : ℕ → Bool} {v : ℕ} → Ends case w (arcs_of case) v → v < set_room
  room {w} {v} x =
      let a = (l.1.1.1.0 x.arc x.early).0 in
      let n = l.0.nodes in
      let d = taken (pos (nodes_of case)) (pos 1) in
      let i = arc_numbers case x.arc in
      let s = size (head_numbers case).nodes in
      ⊎_elim
      (λ (h : (arc_of case x.arc).from ≡ v). omega (ints, a.from.least, a.from.most, n.most, d, s, size i.from))
      (λ (h : (arc_of case x.arc).to ≡ v). omega (ints, a.to.least, a.to.most, n.most, d, s, size i.to))
      x.ends

  in_says : (s v : ℕ) → Says (in_station case v s) (InStation case s v)
  in_says s v = record { fact = station_end_of case v s; passed = λ x. end_in_station case v s x.arc x.early x.named (room x) x.ends }

  plain_says : (v : ℕ) → Says (member_of (plain_nodes case) v) (Ends case (plain case) (arcs_of case) v)
  plain_says v = record { fact = plain_end_of case v; passed = λ x. end_in_plain case v x.arc x.early x.named (room x) x.ends }

  -- ---- 13 to 15

  ends_iff : (e : ℕ) → first_no (arc_ends case e) ≡ Ok tt ↔ ArcRuled case e
  unfolding arc_ends
  ends_iff e = asks_iff 13 e (record { fact = λ h. eqb-false _ _ (not-true _ h); passed = λ f. rw (ne_eqb _ _ f) })

  one_station_iff : (v : ℕ) → first_no (one_station case v) ≡ Ok tt ↔ NodeRuled case v
  unfolding one_station
  one_station_iff v =
      asks_iff 14 v (means (one_says (in_station case v) (stations_of case))
      (λ h s t p q x y. h s t p q ((in_says s v).passed x) ((in_says t v).passed y))
      (λ f s t p q x y. f s t p q ((in_says s v).fact x) ((in_says t v).fact y)))

  -- ---- 16

  pub fence_says : (s v : ℕ) → Says (fence_node case s v) (FenceNode case s v)
  fence_says s v = means (both (in_says s v) (plain_says v)) (λ r. record { inside = r.0; outside = r.1 }) (λ r. (r.inside, r.outside))

  only_says : (s : ℕ) (set : ℤ) → Between (pos 0) set (first_items set_room)
      → Says (only_fence (fence_node case s) set) ((v : ℕ) → member_of set v ≡ true → FenceNode case s v)
  only_says s set r = record {
    fact = λ e v m. (fence_says s v).fact (only_members (fence_node case s) set r e v m);
    passed = λ f. at_only (fence_node case s) set (λ v m. (fence_says s v).passed (f v m));
  }

  direction_says : (s f : ℕ) → CaseDirection case s f → Says (direction_kept case s f) (Rule16 case s f)
  unfolding sets_kept
  direction_says s f c =
      let d = direction_of case s f in
      means (both (disjoint_says d.entry d.exit) (both (only_says s d.entry c.entry) (only_says s d.exit c.exit)))
      (λ r. record { apart = r.0; entry = r.1.0; exit = r.1.1 }) (λ r. (r.apart, (r.entry, r.exit)))

  -- ---- 17

  state_says : (s z : ℕ) → Says (state_kept case (station_at case s) (first_items (station_arcs case s)) z) (Rule17State case s z)
  unfolding state_kept
  state_says s z =
      let d = state_of case s z in
      means (both (disjoint_says d.on d.off) (both (first_says d.on (station_arcs case s)) (first_says d.off (station_arcs case s))))
      (λ r. record { apart = r.0; on = r.1.0; off = r.1.1 }) (λ r. (r.apart, (r.on, r.off)))

  machines_says : (s : ℕ) → Says (every (arcs_of case) (machines_kept case s (first_items (station_of case s).machines)))
      ((e : ℕ) → e < arcs_of case → belongs case s e ≡ true → (m : ℕ) → member_of (artificial_of case e).machines m ≡ true → m < (station_of case s).machines)
  unfolding machines_kept
  machines_says s = all (λ e q. when (flag_says _) (first_says (artificial_of case e).machines (station_of case s).machines))

  active_few : (s e : ℕ) → e < arcs_of case → belongs case s e ≡ true → (artificial_of case e).active ≤ 1
  active_few s e p b =
      let a = (four (l.1.1.1.0 e p).1 (leb-true 3 (arc_of case e).kind (and_first _ _ b))).active in
      omega (ints, a.most, size (artificial_numbers case e).active)

  station_says : (s : ℕ) → s < stations_of case → Says (station_kept case s) (StationRuled case s)
  unfolding station_kept start_kept
  station_says s p =
      let z = (station_of case s).state in
      let i = (l.1.1.1.1.0 s p).0.state in
      let n = taken (pos (station_of case s).states) (pos 1) in
      let h : z < (station_of case s).states = omega (ints, i.least, i.most, n, size (station_numbers case s).state) in
      let on = (state_of case s z).on in
      let off = (state_of case s z).off in
      means (then (all (λ z q. state_says s z)) (λ r. both (machines_says s)
      (both (on_says case s (active_at_start case) on (r z h).on) (off_says case s (active_at_start case) off (r z h).off))))
      (λ r. (
        r.0,
        λ e q t. record {
          machines = r.1.0 e q t;
          on = λ m. (is_one e (active_few s e q t)).0 (r.1.1.0 e q t m);
          off = λ m. (is_zero e (active_few s e q t)).0 (r.1.1.1 e q t m);
        },
      ))
      (λ r. (
        r.0,
        (
          λ e q t. (r.1 e q t).machines,
          (
            λ e q t m. (is_one e (active_few s e q t)).1 ((r.1 e q t).on m),
            λ e q t m. (is_zero e (active_few s e q t)).1 ((r.1 e q t).off m),
          ),
        ),
      ))
    where
      is_one : (e : ℕ) → (artificial_of case e).active ≤ 1 → active_at_start case e ≡ true ↔ (artificial_of case e).active ≡ 1
      is_one e k = let i = leb_says 1 (artificial_of case e).active in (λ t. let n = i.fact t in omega arith, λ n. i.passed (omega arith))

      is_zero : (e : ℕ) → (artificial_of case e).active ≤ 1 → (active_at_start case e ≡ true → ⊥) ↔ (artificial_of case e).active ≡ 0
      is_zero e k =
          let i = leb_says 1 (artificial_of case e).active in
          (λ f. let n : 1 ≤ (artificial_of case e).active → ⊥ = λ m. f (i.passed m) in omega arith, λ n t. let m = i.fact t in omega arith)

  -- ---- all of them

  pub rules_iff : first_no (rule_questions case) ≡ Ok tt ↔ RuleFacts case
  unfolding rule_questions early_rules all_arc_ends all_one_station all_station_sizes station_size all_direction_sets direction_sets all_state_sets state_sets
  rules_iff =
      append_iff (early_rules case) _
      (append_iff (all_arc_ends case) _ (over_iff (arc_ends case) (arcs_of case) (λ e p. ends_iff e)) (λ r.
      append_iff (all_one_station case) _ (over_iff (one_station case) (nodes_of case) (λ v p. one_station_iff v)) (λ r.
      append_iff (all_station_sizes case) _ (over_iff (station_size case) (stations_of case) (λ s p. asks_iff 15 s (leb_says (station_arcs case s) 30))) (λ r.
      over_iff (direction_sets case) (stations_of case) (λ s p.
      asks_iff 16 s (all (λ f q. direction_says s f ((l.1.1.1.1.0 s p).1.0 f q))))))))
      (λ r. over_iff (state_sets case) (stations_of case) (λ s p. asks_iff 17 s (station_says s p)))
