-- One pass over a step's arcs for all stations: what an array with a place for each of 8 stations holds after one arc more.
use Rattle.std.specs.Prelude.{Option, Some, None}
use Rattle.plan.proofs.Common.{◌≡◌, refl, sym, ap, ◌∙◌, Bool, true, false, ◌&&◌, ℕ, ◌+◌, ◌^◌, ◌<◌, ◌≤◌, arith, eq-eqb, ne_eqb, leb, eqb, ℤ, length}
use mathlib.Core.List.{List}
use borrow.Author.Tests.{eqb-true, eqb-false, leb-true}
use lib.Bits.{bit_and, bit_or}
use lib.ListN.{get_or, set, replicate, length-set, length-replicate, get_or-replicate}
use lib.Pow.{pow_mono}
use lib.Seq.{get_or-set_same, get_or-set_other}
use Rattle.std.proofs.lemmas.Option.{cond_some}
use Rattle.case.specs.inside.CountLaws.{before_none, before_yes, before_no, before_mono, arcs_none, arcs_yes, arcs_no, arcs_lt}
use Rattle.case.specs.law.Layout.{arcs_of, stations_of}
use Rattle.case.specs.law.Records.{arc_of, artificial_of}
use Rattle.case.specs.law.StationArcs.{belongs, arcs_before, arc_set}
use Rattle.plan.specs.declared.passes.Gathered.{Gathered}
use Rattle.plan.specs.law.PlanRecords.{active_in}
use Rattle.plan.specs.law.StationRules.{active_set, machines_once}
use Rattle.plan.specs.inside.StationPass.{own_station, active_bits, machines_on, no_gathered, with_arc, GatheredOf}
use Rattle.plan.specs.inside.Preconditions.{AcceptedCase, MachinesKept}
use Rattle.plan.specs.inside.CaseSizes.{counted, station_in, station_size_lem}
use Rattle.plan.proofs.MachinesTaken.{Taken, taken_none, taken_same, taken_more, taken_twice, taken_once, own_bits, own_few}

-- ---- the arc's own station

module _ (case : List ℤ) (e : ℕ) {o : ℕ} (q : own_station case e ≡ Some o) where
  own_is : (leb 3 (arc_of case e).kind ≡ true) × ((artificial_of case e).station ≡ o)
  unfolding own_station
  own_is = cond_some (leb 3 (arc_of case e).kind) (artificial_of case e).station o q

  own_yes : belongs case o e ≡ true
  own_yes = rw own_is.0 (eq-eqb (artificial_of case e).station o own_is.1)

  -- no other station's
  own_no : (s : ℕ) → (s ≡ o → ⊥) → belongs case s e ≡ false
  own_no s n = rw own_is.0 (ne_eqb (artificial_of case e).station s (λ z. n (sym z ∙ own_is.1)))

  own_in : AcceptedCase case → e < arcs_of case → o < stations_of case
  own_in a l = rw (← own_is.1) (station_in a e l (leb-true 3 (arc_of case e).kind own_is.0))

  pub own_small : AcceptedCase case → e < arcs_of case → o < 8
  own_small a l = omega (arith, own_in a l, (counted a).stations)

-- an arc of no station
none_belongs : (case : List ℤ) (e s : ℕ) → own_station case e ≡ None → belongs case s e ≡ false
unfolding own_station
none_belongs case e s q = go (leb 3 (arc_of case e).kind) refl
  where
    go : (b : Bool) → leb 3 (arc_of case e).kind ≡ b → belongs case s e ≡ false
    go true h = let z : ◌≡◌ {A = Option ℕ} (Some (artificial_of case e).station) None = rw h at q in absurd cc
    go false h = rw h

-- a set of at most 30 arcs is small
pub active_bits_lem : {case : List ℤ} (rows : List ℤ) (s : ℕ) → AcceptedCase case → s < stations_of case → active_bits case rows s < 2 ^ 30
unfolding active_set
active_bits_lem {case} rows s a p =
    let q : 2 ^ arcs_before case s (arcs_of case) ≤ 2 ^ 30 = pow_mono (station_size_lem a s p) in
    omega (arith, arcs_lt case s (active_in case rows) (arcs_of case))

-- ---- machines on one arc at most

-- while no machine was found twice, the set is of those that the first e arcs have
pub record OnceAt (case rows : List ℤ) (s : ℕ) (once : Bool) (taken e : ℕ) : Type 0 where
  pub yes : once ≡ true → Taken case rows s taken e
  pub no : once ≡ false → machines_once case rows s ≡ false

module _ {case rows : List ℤ} {s : ℕ} {b : Bool} {t e : ℕ} (g : OnceAt case rows s b t e) where
  once_same : belongs case s e ≡ false → OnceAt case rows s b t (e + 1)
  once_same h = record { yes = λ y. taken_same (g.yes y) h; no = g.no }

  once_more : AcceptedCase case → MachinesKept case rows → s < stations_of case → e < arcs_of case → belongs case s e ≡ true
      → OnceAt case rows s (b && eqb (bit_and (machines_on case rows e) t) 0) (bit_or t (machines_on case rows e)) (e + 1)
  once_more a k p q h = go b refl (eqb (bit_and (machines_on case rows e) t) 0) refl
    where
      go : (v : Bool) → b ≡ v → (w : Bool) → eqb (bit_and (machines_on case rows e) t) 0 ≡ w
          → OnceAt case rows s (v && w) (bit_or t (machines_on case rows e)) (e + 1)
      go true y true d = record { yes = λ z. taken_more (g.yes y) h refl (eqb-true _ _ d); no = λ z. absurd cc }
      go true y false d = record {
        yes = λ z. absurd cc;
        no = λ z. sym (taken_twice (g.yes y) h refl q (λ m r. own_bits a k p q h m r) (own_few a k p q h) (eqb-false _ _ d));
      }
      go false y w d = record { yes = λ z. absurd cc; no = λ z. g.no y }

-- a station's answer after the last arc
once_is : {case rows : List ℤ} {s : ℕ} {b : Bool} {t : ℕ} → OnceAt case rows s b t (arcs_of case) → b ≡ machines_once case rows s
once_is {b = true} g = taken_once (g.yes refl)
once_is {b = false} g = sym (g.no refl)

-- ---- one station

-- what is gathered of the station among the first e arcs
pub record GatheredAt (case rows : List ℤ) (s : ℕ) (g : Gathered) (e : ℕ) : Type 0 where
  pub arcs : g.arcs ≡ arcs_before case s e
  pub active : g.active ≡ arc_set case s (active_in case rows) e
  pub once : OnceAt case rows s g.once g.taken e

-- before the first arc
abbrev none_gathered : Gathered
none_gathered = record { arcs = 0; active = 0; once = true; taken = 0 }

none_at : (case rows : List ℤ) (s : ℕ) → GatheredAt case rows s none_gathered 0
none_at case rows s = record {
  arcs = sym (before_none case s);
  active = sym (arcs_none case s (active_in case rows));
  once = record { yes = λ y. taken_none case rows s; no = λ y. absurd cc };
}

module _ {case rows : List ℤ} {s : ℕ} {g : Gathered} {e : ℕ} (h : GatheredAt case rows s g e) where
  same_at : belongs case s e ≡ false → GatheredAt case rows s g (e + 1)
  same_at n = record {
    arcs = h.arcs ∙ sym (before_no case s e n);
    active = h.active ∙ sym (arcs_no case s (active_in case rows) e n);
    once = once_same h.once n;
  }

  more_at : AcceptedCase case → MachinesKept case rows → s < stations_of case → e < arcs_of case → belongs case s e ≡ true
      → GatheredAt case rows s (with_arc case rows e g) (e + 1)
  unfolding with_arc
  more_at a k p q y = record {
    arcs = ap (λ (n : ℕ). n + 1) h.arcs ∙ sym (before_yes case s e y);
    active = rw (h.arcs, h.active) (sym (arcs_yes case s (active_in case rows) e y));
    once = once_more h.once a k p q y;
  }

  -- the set is of the arcs before, and there is room for one more
  small_at : g.active < 2 ^ g.arcs
  small_at = rw (h.arcs, h.active) (arcs_lt case s (active_in case rows) e)

  few_at : AcceptedCase case → s < stations_of case → e < arcs_of case → belongs case s e ≡ true → g.arcs < 30
  few_at a p q y =
      let later = before_mono case s (e + 1) (arcs_of case) (omega arith) in
      omega (arith, h.arcs, before_yes case s e y, later, station_size_lem a s p)

  last_at : e ≡ arcs_of case → GatheredOf case rows s g
  unfolding active_set
  last_at q = record { active = rw q at h.active; once = once_is (rw q at h.once) }

-- ---- all stations

pub record GatheredAll (case rows : List ℤ) (gs : List Gathered) (e : ℕ) : Type 0 where
  pub long : length gs ≡ 8
  pub each : (s : ℕ) → s < 8 → GatheredAt case rows s (get_or gs s no_gathered) e

pub all_none : (case rows : List ℤ) → GatheredAll case rows (replicate 8 none_gathered) 0
all_none case rows = record {
  long = length-replicate 8 none_gathered;
  each = λ s p. rw (get_or-replicate 8 s none_gathered no_gathered p) (none_at case rows s);
}

module _ {case rows : List ℤ} {gs : List Gathered} {e : ℕ} (h : GatheredAll case rows gs e) where
  pub all_same : own_station case e ≡ None → GatheredAll case rows gs (e + 1)
  all_same n = record { long = h.long; each = λ s p. same_at (h.each s p) (none_belongs case e s n) }

  module _ (a : AcceptedCase case) (q : e < arcs_of case) {o : ℕ} (y : own_station case e ≡ Some o) where
    at : GatheredAt case rows o (get_or gs o no_gathered) e
    at = h.each o (own_small case e y a q)

    pub room : (get_or gs o no_gathered).arcs < 62
    room = omega (arith, few_at at a (own_in case e y a q) q (own_yes case e y))

    pub fits : (get_or gs o no_gathered).active < 2 ^ (get_or gs o no_gathered).arcs
    fits = small_at at

    pub all_more : MachinesKept case rows → {g : Gathered} → g ≡ with_arc case rows e (get_or gs o no_gathered) → GatheredAll case rows (set gs o g) (e + 1)
    all_more k {g} d = record { long = length-set gs o g ∙ h.long; each = λ s p. go s p (eqb s o) refl }
      where
        go : (s : ℕ) → s < 8 → (b : Bool) → eqb s o ≡ b → GatheredAt case rows s (get_or (set gs o g) s no_gathered) (e + 1)
        go s p true z =
            let same = eqb-true s o z in
            rw (same, get_or-set_same gs o g no_gathered (omega (arith, h.long, own_small case e y a q)), d)
            (more_at at a k (own_in case e y a q) q (own_yes case e y))
        go s p false z =
            let other = eqb-false s o z in
            rw (get_or-set_other gs o s g no_gathered other) (same_at (h.each s p) (own_no case e y s other))

  pub all_last : AcceptedCase case → e ≡ arcs_of case → (s : ℕ) → s < stations_of case → GatheredOf case rows s (get_or gs s no_gathered)
  all_last a q s p = last_at (h.each s (omega (arith, (counted a).stations))) q
