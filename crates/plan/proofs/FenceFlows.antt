-- By 14 the artificial arcs at a station's node are all that station's, so the net flow into artificial arcs is the flow that 32 asks for.
use Rattle.plan.proofs.Common.{◌≡◌, refl, sym, ap, Bool, true, false, ℕ, ◌+◌, ◌-◌, ◌<◌, ◌≤◌, arith, eq-eqb, ne_eqb, leb, eqb, ℤ, counted}
use mathlib.Core.List.{List}
use mathlib.Core.Logic.{◌⊎◌, inl, inr}
use borrow.Author.Tests.{eqb-true, eqb-false, leb-true, ltb-true, ltb-false}
use lib.Dec.{ltb}
use Rattle.numbers.specs.law.Sets.{member_of}
use Rattle.numbers.specs.law.Sums.{count}
use Rattle.numbers.specs.inside.SumLaws.{sum_cong}
use Rattle.case.specs.inside.Places.{nodes_in_set}
use Rattle.case.specs.inside.AcceptedCase.{in_one_station}
use Rattle.case.specs.inside.CountLaws.{count_yes, count_grows}
use Rattle.case.specs.law.Layout.{nodes_of, arcs_of, stations_of}
use Rattle.case.specs.law.OneStation.{in_station}
use Rattle.case.specs.law.Records.{arc_of, artificial_of}
use Rattle.case.specs.inside.SetLaws.{end_in_station}
use Rattle.case.specs.law.StationArcs.{belongs}
use Rattle.case.specs.law.StationNodes.{station_nodes, fence_node}
use Rattle.case.specs.declared.records.Direction.{Direction}
use Rattle.plan.specs.inside.StationPass.{artificial_part, artificial_flow}
use Rattle.plan.specs.law.StationRules.{station_part, station_flow, fence_node_kept}
use Rattle.plan.specs.inside.Preconditions.{AcceptedCase}
use Rattle.plan.specs.inside.CaseSizes.{station_in}

-- two items that are so
two : (n : ℕ) (w : ℕ → Bool) (i j : ℕ) → i < j → j < n → w i ≡ true → w j ≡ true → 2 ≤ count n w
two n w i j p q h k =
    let x : (i + 1) + (j - (i + 1)) ≡ j = omega arith in
    let y : (j + 1) + (n - (j + 1)) ≡ n = omega arith in
    omega (arith, count_yes w i h, count_yes w j k, rw x at (count_grows w (i + 1) (j - (i + 1))), rw y at (count_grows w (j + 1) (n - (j + 1))))

module _ {case : List ℤ} (a : AcceptedCase case) (v : ℕ) (p : v < nodes_of case) where
  -- 14: the node is in no other station
  other : (s t : ℕ) → s < stations_of case → t < stations_of case → (s ≡ t → ⊥) → in_station case v s ≡ true → in_station case v t ≡ true → ⊥
  other s t l m n h k = go (ltb s t) refl
    where
      one : count (stations_of case) (in_station case v) ≤ 1
      one = in_one_station case a.yes v p

      go : (b : Bool) → ltb s t ≡ b → ⊥
      go true y = omega (arith, one, two (stations_of case) (in_station case v) s t (ltb-true s t y) m h k)
      go false y = go_back (eqb s t) refl
        where
          go_back : (b : Bool) → eqb s t ≡ b → ⊥
          go_back true z = n (eqb-true s t z)
          go_back false z =
              let d = eqb-false s t z in
              let g : t < s = omega (arith, ltb-false s t y, d) in
              omega (arith, one, two (stations_of case) (in_station case v) t s g l k h)

  module _ (rows : List ℤ) (s : ℕ) (l : s < stations_of case) (h : member_of (station_nodes case s) v ≡ true) where
    -- an artificial arc of another station does not end here
    away : (e : ℕ) → e < arcs_of case → leb 3 (arc_of case e).kind ≡ true → eqb (artificial_of case e).station s ≡ false
        → ((arc_of case e).from ≡ v) ⊎ ((arc_of case e).to ≡ v) → ⊥
    away e q k n d =
        let t = (artificial_of case e).station in
        let b : belongs case t e ≡ true = rw (k, eq-eqb t t refl) in
        other s t l (station_in a e q (leb-true 3 (arc_of case e).kind k)) (λ (z : s ≡ t). eqb-false t s n (sym z)) h
        (end_in_station case v t e q b (omega (arith, p, nodes_in_set case (counted a))) d)

    same_part : (e : ℕ) → e < arcs_of case → artificial_part case rows v e ≡ station_part case rows s v e
    unfolding artificial_part station_part
    same_part e q = go (leb 3 (arc_of case e).kind) refl (eqb (artificial_of case e).station s) refl
      where
        go : (b : Bool) → leb 3 (arc_of case e).kind ≡ b → (d : Bool) → eqb (artificial_of case e).station s ≡ d
            → artificial_part case rows v e ≡ station_part case rows s v e
        go false x d y = rw x
        go true x true y = rw (x, y)
        go true x false y =
            let from = ne_eqb (arc_of case e).from v (λ z. away e q x y (inl z)) in
            let to = ne_eqb (arc_of case e).to v (λ z. away e q x y (inr z)) in
            rw (x, y, from, to)

    pub same_flow : artificial_flow case rows v ≡ station_flow case rows s v
    unfolding artificial_flow station_flow
    same_flow = sum_cong (arcs_of case) (artificial_part case rows v) (station_part case rows s v) same_part

  -- 32 of the node by either flow: of a node that is not the station's it does not look at the flow
  pub fence_passed : (rows : List ℤ) (s : ℕ) → s < stations_of case → (chosen : Direction)
      → fence_node_kept (fence_node case s) chosen v (artificial_flow case rows v) ≡ fence_node_kept (fence_node case s) chosen v (station_flow case rows s v)
  unfolding fence_node_kept
  fence_passed rows s l chosen = go (member_of (station_nodes case s) v) refl
    where
      go : (b : Bool) → member_of (station_nodes case s) v ≡ b
          → fence_node_kept (fence_node case s) chosen v (artificial_flow case rows v)
          ≡ fence_node_kept (fence_node case s) chosen v (station_flow case rows s v)
      go true h = ap (fence_node_kept (fence_node case s) chosen v) (same_flow rows s l h)
      go false h = rw h
