-- Machines taken as a set: while no arc has one that is taken, a machine is in the set as often as the arcs passed have it.
use Rattle.plan.proofs.Common.{◌≡◌, refl, sym, ◌∙◌, Bool, true, false, ◌&&◌, ℕ, ◌+◌, ◌-◌, ◌^◌, ◌<◌, ◌≤◌, arith, le-leb, leb, eqb, ℤ, pos, le_z}
use mathlib.Core.Bool.{cond}
use mathlib.Core.List.{List}
use Prim.Native.Nat.{◌/◌, min, max}
use borrow.Author.Tests.{eqb-true, eqb-false, leb-true, ltb-true, ltb-false}
use lib.Bits.{bit_and, bit_or, or_step, or_shr}
use lib.Dec.{ltb}
use lib.Pow.{pow_pos, pow_mono}
use Rattle.std.proofs.lemmas.Nat.{and_le_r}
use Rattle.numbers.specs.law.Signed.{pos_part}
use Rattle.numbers.specs.inside.SignedParts.{ints, size}
use Rattle.numbers.specs.law.Sets.{bit, subset_of}
use Rattle.numbers.specs.inside.SetLaws.{bit_zero, bit_high, subset_is, disjoint_is, is_disjoint}
use Rattle.numbers.specs.law.Sums.{count}
use Rattle.case.specs.law.Layout.{arcs_of, stations_of}
use Rattle.case.specs.law.Records.{arc_of, artificial_of, station_of}
use Rattle.case.specs.inside.FieldLaws.{and_first, and_second}
use Rattle.case.specs.law.StationFields.{first_items}
use Rattle.case.specs.law.StationArcs.{belongs, every}
use Rattle.case.specs.inside.CountLaws.{count_none, count_yes, count_no, count_grows, every_at, at_every}
use Rattle.plan.specs.law.Compared.{is_zero}
use Rattle.plan.specs.law.PlanRecords.{arc_row}
use Rattle.plan.specs.law.ArcFlows.{machines_within}
use Rattle.plan.specs.law.StationRules.{on_arc, machine_once, machines_once}
use Rattle.plan.specs.inside.Preconditions.{AcceptedCase, MachinesKept}
use Rattle.plan.specs.inside.CaseSizes.{own_machines, machines_sized}

bit_or_lem : (a b i : ℕ) → bit (bit_or a b) i ≡ max (bit a i) (bit b i)
bit_or_lem a b i = rw or_shr (let k = or_step (a / 2 ^ i) (b / 2 ^ i) in omega arith)

-- a machine is in `taken` as often as the first e arcs have it
pub record Taken (case rows : List ℤ) (s taken e : ℕ) : Type 0 where
  pub each : (m : ℕ) → bit taken m ≡ count e (on_arc case rows s m)

pub taken_none : (case rows : List ℤ) (s : ℕ) → Taken case rows s 0 0
taken_none case rows s = record { each = λ m. bit_zero m ∙ sym (count_none (on_arc case rows s m)) }

-- ---- the machines of an arc are the station's own

own_within : (kind : ℕ) (own x : ℤ) {n : ℕ} → machines_within kind own x ≡ true → subset_of own (first_items n) ≡ true
    → (m : ℕ) → n ≤ m → bit (pos_part x) m ≡ 0
unfolding machines_within
own_within kind own x {n} k o m p = go (leb kind 4) k
  where
    go : (b : Bool) → cond b (is_zero x) (le_z (pos 0) x && subset_of x own) ≡ true → bit (pos_part x) m ≡ 0
    go true e =
        let a : le_z x (pos 0) ≡ true = and_first (le_z x (pos 0)) (le_z (pos 0) x) e in
        let z : pos_part x ≡ 0 = omega (ints, size x) in
        rw z (bit_zero m)
    go false e =
        let a : bit_and (pos_part x) (pos_part own) ≡ pos_part x = eqb-true _ _ (and_second (le_z (pos 0) x) (subset_of x own) e) in
        let h : 2 ^ n - 1 < 2 ^ n = omega (arith, pow_pos n) in
        let few = subset_is (pos_part own) (pos_part (first_items n)) (eqb-true _ _ o) m in
        omega (arith, subset_is (pos_part x) (pos_part own) a m, few, bit_high n (2 ^ n - 1) m h p)

pub own_bits : {case rows : List ℤ} {s e : ℕ} → AcceptedCase case → MachinesKept case rows → s < stations_of case → e < arcs_of case → belongs case s e ≡ true
    → (m : ℕ) → (station_of case s).machines ≤ m → bit (pos_part (arc_row case rows e).machines) m ≡ 0
own_bits {case} {rows} {s} {e} a k p q b =
    own_within (arc_of case e).kind (artificial_of case e).machines (arc_row case rows e).machines (k.each e q) (own_machines a s p e q b)

-- and so the set is a small number
own_small : (kind : ℕ) (own x : ℤ) {n : ℕ} → machines_within kind own x ≡ true → subset_of own (first_items n) ≡ true → n ≤ 12 → pos_part x < 2 ^ 12
unfolding machines_within
own_small kind own x {n} k o few = go (leb kind 4) k
  where
    go : (b : Bool) → cond b (is_zero x) (le_z (pos 0) x && subset_of x own) ≡ true → pos_part x < 2 ^ 12
    go true e =
        let a : le_z x (pos 0) ≡ true = and_first (le_z x (pos 0)) (le_z (pos 0) x) e in
        let z : pos_part x ≡ 0 = omega (ints, size x) in
        omega arith
    go false e =
        let a = eqb-true _ _ (and_second (le_z (pos 0) x) (subset_of x own) e) in
        let h : 2 ^ n - 1 < 2 ^ n = omega (arith, pow_pos n) in
        let w : 2 ^ n ≤ 2 ^ 12 = pow_mono few in
        let u : pos_part x ≤ pos_part own = rw a at (and_le_r (pos_part x) (pos_part own)) in
        let v : pos_part own ≤ 2 ^ n - 1 = rw (eqb-true _ _ o) at (and_le_r (pos_part own) (pos_part (first_items n))) in
        omega arith

pub own_few : {case rows : List ℤ} {s e : ℕ} → AcceptedCase case → MachinesKept case rows → s < stations_of case → e < arcs_of case → belongs case s e ≡ true
    → pos_part (arc_row case rows e).machines < 2 ^ 12
own_few {case} {rows} {s} {e} a k p q b =
    own_small (arc_of case e).kind (artificial_of case e).machines (arc_row case rows e).machines (k.each e q) (own_machines a s p e q b)
    (machines_sized a s p).count

-- ---- one arc more

module _ {case rows : List ℤ} {s t e : ℕ} (g : Taken case rows s t e) where
  pub taken_same : belongs case s e ≡ false → Taken case rows s t (e + 1)
  taken_same b = record { each = λ m. g.each m ∙ sym (count_no (on_arc case rows s m) e (rw b)) }

  module _ (b : belongs case s e ≡ true) {x : ℕ} (w : x ≡ pos_part (arc_row case rows e).machines) where
    -- by whether the arc has the machine
    has : (m : ℕ) → eqb (bit x m) 1 ≡ true → count (e + 1) (on_arc case rows s m) ≡ count e (on_arc case rows s m) + 1
    has m h = count_yes (on_arc case rows s m) e (rw (b, ← w, h))

    lacks : (m : ℕ) → eqb (bit x m) 1 ≡ false → count (e + 1) (on_arc case rows s m) ≡ count e (on_arc case rows s m)
    lacks m h = count_no (on_arc case rows s m) e (rw (b, ← w, h))

    pub taken_more : bit_and x t ≡ 0 → Taken case rows s (bit_or t x) (e + 1)
    taken_more d = record { each = λ m. go m (eqb (bit x m) 1) refl }
      where
        go : (m : ℕ) (v : Bool) → eqb (bit x m) 1 ≡ v → bit (bit_or t x) m ≡ count (e + 1) (on_arc case rows s m)
        go m true h = omega (arith, has m h, g.each m, bit_or_lem t x m, disjoint_is x t d m, eqb-true (bit x m) 1 h)
        go m false h = let n = eqb-false (bit x m) 1 h in omega (arith, lacks m h, g.each m, bit_or_lem t x m, n)

    -- a machine that an arc before it has
    pub taken_twice : e < arcs_of case → ((m : ℕ) → (station_of case s).machines ≤ m → bit x m ≡ 0) → x < 2 ^ 12 → (bit_and x t ≡ 0 → ⊥)
        → false ≡ machines_once case rows s
    unfolding machines_once
    taken_twice p own l n = go (every (station_of case s).machines (machine_once case rows s)) refl
      where
        clear : every (station_of case s).machines (machine_once case rows s) ≡ true → (m : ℕ) → min (bit x m) (bit t m) ≡ 0
        clear y m = at (ltb m (station_of case s).machines) refl (eqb (bit x m) 1) refl
          where
            at : (i : Bool) → ltb m (station_of case s).machines ≡ i → (v : Bool) → eqb (bit x m) 1 ≡ v → min (bit x m) (bit t m) ≡ 0
            at false i v h = omega (arith, own m (ltb-false m (station_of case s).machines i))
            at true i false h = let n = eqb-false (bit x m) 1 h in omega (arith, n)
            at true i true h =
                let all = every_at (station_of case s).machines (machine_once case rows s) y m (ltb-true m (station_of case s).machines i) in
                let o = leb-true (count (arcs_of case) (on_arc case rows s m)) 1 all in
                let z : (e + 1) + (arcs_of case - (e + 1)) ≡ arcs_of case = omega (arith, p) in
                let k = rw z at (count_grows (on_arc case rows s m) (e + 1) (arcs_of case - (e + 1))) in
                omega (arith, has m h, g.each m, o, k)

        go : (v : Bool) → every (station_of case s).machines (machine_once case rows s) ≡ v → false ≡ v
        go false y = refl
        go true y = absurd (n (is_disjoint 12 x t l (clear y)))

pub taken_once : {case rows : List ℤ} {s t : ℕ} → Taken case rows s t (arcs_of case) → true ≡ machines_once case rows s
unfolding machines_once
taken_once {case} {rows} {s} {t} g =
    let once : (m : ℕ) → machine_once case rows s m ≡ true = λ m. le-leb (count (arcs_of case) (on_arc case rows s m)) 1 (omega (arith, g.each m)) in
    sym (at_every (station_of case s).machines (machine_once case rows s) (λ m p. once m))
