-- A node's row, both ways: no field of it is refused exactly where it is there and its facts of `CaseRules` hold. Its demands stand one after the other, so
-- that they are fields that share their range.
-- Assumes nothing.
use Rattle.std.specs.Prelude.{◌≡◌, refl, List, ◌++◌, ◌↔◌, ℕ, zero, suc, ◌+◌, ◌<◌, ◌≤◌, ℤ, pos, length}
use Rattle.std.proofs.Common.{ap, ap₂, arith, ltb-true}
use Rattle.std.proofs.Math.Nat.{add_assoc}
use Rattle.numbers.specs.inside.SignedParts.{ints, size}
use Rattle.numbers.specs.law.Question.{Question}
use Rattle.numbers.specs.law.Items.{over}
use Rattle.case.specs.declared.records.Node.{Node}
use Rattle.case.specs.law.Layout.{number_at, count_at, steps_of, node_width, node_at, bounds_in, bounds_at, demand_in, node_kind_at, p0_at}
use Rattle.case.specs.law.Layout.{low_at, high_at, actlow_at, acthigh_at}
use Rattle.case.specs.law.Records.{node_of}
use Rattle.case.specs.law.Field.{field, fields, next_field, most_pressure}
use Rattle.case.specs.law.NodeFields.{node_head, bound_fields, least_demand, most_demand, demand_field, node_row_fields, node_fields}
use Rattle.case.specs.claims.Says.{Between}
use Rattle.case.specs.inside.Exactly.{Read, all_read, append_read, fields_read, row_is, row_kept, flat}
use Rattle.case.specs.claims.CaseRules.{CaseNode, CaseDemand}

-- ---- demands

-- items that are asked the same questions
over_same : (f g : ℕ → List Question) (i n : ℕ) → ((j : ℕ) → f j ≡ g j) → over f i n ≡ over g i n
over_same f g i zero h = refl
over_same f g i (suc n) h = ap₂ ◌++◌ (h i) (over_same f g (suc i) n h)

pub demands_are : (case : List ℤ) (offset n : ℕ)
    → over (demand_field case offset) 0 n ≡ fields case (offset + 6) n (least_demand (count_at case offset)) (most_demand (count_at case offset))
unfolding demand_field demand_in fields
demands_are case offset n =
    let low = least_demand (count_at case offset) in
    let high = most_demand (count_at case offset) in
    over_same (demand_field case offset) (next_field case (offset + 6) low high) 0 n (λ j.
    let e : offset + (6 + j) ≡ offset + 6 + j = rw add_assoc in ap (λ (i : ℕ). field case i low high) e)

pub demand_iff : (n : Node) → n.kind ≤ 2 → Between (least_demand n.kind) n.demand (most_demand n.kind) ↔ CaseDemand n
demand_iff n h = (
  λ r. record { inner = λ h. let q : Between (pos 0) n.demand (pos 0) = rw h at r in omega ints; source = λ h. rw h at r; sink = λ h. rw h at r },
  λ r. go r n.kind refl,
)
  where
    go : CaseDemand n → (k : ℕ) → n.kind ≡ k → Between (least_demand k) n.demand (most_demand k)
    go r zero e = let q = r.inner e in omega ints
    go r (suc zero) e = r.source e
    go r (suc (suc zero)) e = r.sink e
    go r (suc (suc (suc k))) e = let f : ⊥ = omega arith in absurd f

-- ---- the row

abbrev pub NodeFacts : List ℤ → ℕ → Type 0
NodeFacts case v = CaseNode case v × ((i : ℕ) → i < steps_of case → CaseDemand (node_of case v i))

-- the four bounds that begin at `offset`
record BoundsKept (case : List ℤ) (offset : ℕ) : Type 0 where
  pub low : Between (pos 0) (number_at case (low_at offset)) most_pressure
  pub high : Between (pos 0) (number_at case (high_at offset)) most_pressure
  pub actlow : Between (number_at case (low_at offset)) (number_at case (actlow_at offset)) most_pressure
  pub acthigh : Between (number_at case (actlow_at offset)) (number_at case (acthigh_at offset)) (number_at case (high_at offset))

module _ (case : List ℤ) where
  node_head_lem : (offset : ℕ) → Read case (node_head case offset) (offset + 2)
      (Between (pos 0) (number_at case (node_kind_at offset)) (pos 2) × Between (pos 0) (number_at case (p0_at offset)) most_pressure)
  unfolding node_head field
  node_head_lem offset = all_read case (node_head case offset) (λ a. (omega (arith, ltb-true), search row_is), λ r. search row_kept depth 40)

  bounds_read : (offset : ℕ) → Read case (bound_fields case offset) (offset + 4) (BoundsKept case offset)
  unfolding bound_fields fields field
  bounds_read offset =
      all_read case (bound_fields case offset)
      (λ a. let b = simp flat at a in (omega (arith, ltb-true), search row_is), λ r. simp flat (search row_kept depth 40))

  demands_read : (v : ℕ) → (node_of case v 0).kind ≤ 2 → node_at case v + 6 ≤ length case
      → Read case (over (demand_field case (node_at case v)) 0 (steps_of case)) (node_at case v + node_width case)
      ((i : ℕ) → i < steps_of case → CaseDemand (node_of case v i))
  unfolding node_width demand_in
  demands_read v k t =
      let offset = node_at case v in
      rw (demands_are case offset (steps_of case), ← add_assoc)
      (fields_read case (offset + 6) (steps_of case) (least_demand (count_at case offset)) (most_demand (count_at case offset))
      (λ i. CaseDemand (node_of case v i))
      (λ i. rw add_assoc (demand_iff (node_of case v i) k)) t)

  pub node_read : (v : ℕ) → Read case (node_fields case v) (node_at case v + node_width case) (NodeFacts case v)
  unfolding node_fields node_row_fields node_width bounds_in
  node_read v =
      let r =
      append_read case (node_head case (node_at case v)) _ (omega arith) (node_head_lem (node_at case v)) (λ t h.
      append_read case (bound_fields case (bounds_at case v 0)) _ (omega arith) (bounds_read (bounds_at case v 0)) (λ t b.
      demands_read v (omega (ints, h.0.most, size (number_at case (node_at case v)))) (omega arith))) in (
        λ y. let f = (r.0 y).1 in (
          (r.0 y).0,
          (
            record {
              kind = f.0.0;
              p0 = f.0.1;
              low = f.1.0.low;
              high = f.1.0.high;
              actlow = f.1.0.actlow;
              acthigh = f.1.0.acthigh;
            },
            f.1.1,
          ),
        ),
        λ f. let n = f.1.0 in r.1 (f.0, ((n.kind, n.p0), (record { low = n.low; high = n.high; actlow = n.actlow; acthigh = n.acthigh }, f.1.1))),
      )
