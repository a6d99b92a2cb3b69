-- What the functions of one arc share: its ends, the sizes of a pipe's two sides, and the station of a compressing arc.
use Rattle.case.specs.law.Extents.{node_capacity}
use Rattle.plan.proofs.Common.{◌≡◌, refl, ap, ◌∙◌, ℕ, ◌<◌, ◌≤◌, arith, ℤ, pos, nat_abs, ◌+ℤ◌, ◌-ℤ◌, w64, to_z, of_z}
use Rattle.plan.proofs.Common.{Held, literal, ◌+ʳ◌, ◌-ʳ◌, ◌*ʳ◌, counted}
use mathlib.Core.List.{List}
use lib.IntN.{◌*ℤ◌}
use Rattle.numbers.specs.inside.SignedBounds.{Bounded}
use Rattle.numbers.specs.inside.SignedLocals.{loosen}
use Rattle.numbers.specs.law.Sets.{member_of}
use Rattle.numbers.specs.inside.SumLaws.{abs_sum_le, abs_only_le}
use Rattle.case.specs.declared.records.Arc.{Arc}
use Rattle.case.specs.declared.records.Pipe.{Pipe}
use Rattle.case.specs.declared.records.Artificial.{Artificial}
use Rattle.case.specs.law.Layout.{number_at, nodes_of, arcs_of, stations_of, station_at, machine_count}
use Rattle.case.specs.law.Records.{arc_of, pipe_of, artificial_of, machine_row}
use Rattle.plan.specs.declared.rows.ArcRow.{ArcRow}
use Rattle.plan.specs.declared.step.Step.{Step}
use Rattle.plan.specs.declared.setting.Way.{Way}
use Rattle.plan.specs.declared.setting.Mode.TheVariants.{Open, Regulating, Compressing}
use Rattle.plan.specs.declared.setting.Setting.{Setting}
use Rattle.plan.specs.declared.setting.Setting.TheVariants.{Unknown, Off, Active}
use Rattle.plan.specs.law.PlanRecords.{arc_row}
use Rattle.plan.specs.law.Compared.{is_zero}
use Rattle.plan.specs.law.Setting.{setting_of, setting_in, station_offset}
use Rattle.plan.specs.law.ArcMachines.{setting_machines, machines_used}
use Rattle.plan.specs.law.Machines.{machine_gain, gain_part}
use Rattle.plan.specs.law.Pipes.{duration, change, pipe_imbalance, pressure_balance}
use Rattle.plan.specs.inside.Sizes.{MachinesSized}
use Rattle.plan.specs.inside.SettingLaws.{compressing_five}
use Rattle.plan.specs.inside.Preconditions.{AcceptedCase}
use Rattle.plan.specs.inside.StepArcs.{PastFlows, Compresses, AtFlow, AtPipe}
use Rattle.plan.specs.inside.AnsweredSizes.{arc_sized}
use Rattle.plan.proofs.SignedReads.{read, read_bounded, sized}
use Rattle.plan.specs.inside.CaseSizes.{duration_sized, from_node, to_node, pipe_sized, station_in, machines_sized}

-- ---- the two ends of an arc that was read

module _ {case : List ℤ} {e : ℕ} (a : AcceptedCase case) (p : e < arcs_of case) {c : Arc} (q : c ≡ arc_of case e) where
  pub from_in : c.from < nodes_of case
  from_in = rw q (from_node a e p)

  pub to_in : c.to < nodes_of case
  to_in = rw q (to_node a e p)

  pub from_small : c.from < node_capacity
  from_small = omega (arith, from_in, (counted a).nodes)

  pub to_small : c.to < node_capacity
  to_small = omega (arith, to_in, (counted a).nodes)

-- ---- past 24 the flows are in range

pub at_flow : {s : Step} {e : ℕ} → PastFlows s e → AtFlow s e
at_flow {s} {e} p = record { arc = p.arc; flows = arc_sized s.case.list.now (number_at s.old.now) s.rows.now s.i s.case.yes e p.arc p.yes }

-- ---- 26: the ratio of a station's machines

pub gain_sized : {case : List ℤ} {first : ℕ} (set : ℤ) → MachinesSized case first → Bounded (machine_gain case first set) 132000
unfolding machine_gain gain_part
gain_sized {case} {first} set z =
    let part : (m : ℕ) → m < machine_count case first → nat_abs (gain_part case first set m) ≤ 11000 =
    λ m p. abs_only_le (member_of set m) ((machine_row case first m).ratio -ℤ pos 1000) (sized (z.ratio m p) -ʳ literal (pos 1000)).bound in
    record { bound = omega (arith, abs_sum_le (machine_count case first) 11000 (gain_part case first set) part, z.count) }

-- ---- the station of an artificial arc

module _ {case : List ℤ} {e : ℕ} (c : AcceptedCase case) (a : e < arcs_of case) (k : 3 ≤ (arc_of case e).kind) where
  pub own_in : {x : Artificial} → x ≡ artificial_of case e → x.station < stations_of case
  own_in q = rw q (station_in c e a k)

  pub offset_machines : {r : ℕ} → r ≡ station_offset case e → MachinesSized case r
  offset_machines h = rw h (machines_sized c (artificial_of case e).station (station_in c e a k))

pub offset_is : (case : List ℤ) (e : ℕ) {x : Artificial} {r : ℕ} → x ≡ artificial_of case e → r ≡ station_at case x.station → r ≡ station_offset case e
offset_is case e q h = h ∙ ap (λ (y : Artificial). station_at case y.station) q

pub compresses : (s : Step) {e r u w : ℕ} → e < arcs_of s.case.list.now → 3 ≤ (arc_of s.case.list.now e).kind → r ≡ station_offset s.case.list.now e
    → u < nodes_of s.case.list.now → w < nodes_of s.case.list.now → Compresses s r e u w
compresses s a k h p q = record { arc = a; offset_of = h; machines = offset_machines s.case.yes a k h; in_node = p; out_node = q }

-- an arc that compresses is a station's
pub compressing_kind : (kind : ℕ) (z : ℤ) (way : Way) → setting_of kind z ≡ Active way Compressing → 3 ≤ kind
compressing_kind kind z way e = omega (arith, compressing_five kind z way e)

-- 27 of an arc that does not compress
pub machines_none : (case rows : List ℤ) (e : ℕ) → (arc_of case e).kind ≤ 4 → machines_used case rows e ≡ is_zero (arc_row case rows e).machines
unfolding machines_used
machines_none case rows e h = go (setting_in case rows e) refl
  where
    go : (s : Setting) → setting_in case rows e ≡ s → setting_machines case rows e s ≡ is_zero (arc_row case rows e).machines
    go Unknown k = refl
    go Off k = refl
    go (Active way Open) k = refl
    go (Active way Regulating) k = refl
    go (Active way Compressing) k = let f : ⊥ = omega (arith, h, compressing_five _ _ way k) in absurd f

-- ---- 28 and 29: the two sides of a pipe

-- what the sum of 28 is made of, as it is read, and that it is the sum
pub record SumRead (dt a b c x y z : ℤ) : Type 0 where
  pub sizes : Bounded (to_z w64 (of_z w64 dt)) 86400
      × Bounded (to_z w64 (of_z w64 a)) 10000000
      × Bounded (to_z w64 (of_z w64 b)) 10000000
      × Bounded (to_z w64 (of_z w64 c)) 100000000
      × Bounded (to_z w64 (of_z w64 x)) 400000
      × Bounded (to_z w64 (of_z w64 y)) 400000
  pub total : Held
      (to_z w64 (of_z w64 dt) *ℤ (to_z w64 (of_z w64 a) -ℤ to_z w64 (of_z w64 b)) -ℤ to_z w64 (of_z w64 c) *ℤ (to_z w64 (of_z w64 x) +ℤ to_z w64 (of_z w64 y)))
      z 100000000000000

module _ {s : Step} {e : ℕ} (p : AtPipe s e) where
  pub change_sized : (v : ℕ) → v < nodes_of s.case.list.now → Bounded (change (number_at s.old.now) s.rows.now v) 400000
  change_sized v q = record { bound = (sized (s.pressures.each v q) -ʳ sized (s.before.each v q)).bound }

  pub sum_read : {dt x y : ℤ} {r : ArcRow} {k : Pipe} {n : Arc} → dt ≡ duration s.case.list.now s.i → r ≡ arc_row s.case.list.now s.rows.now e
      → k ≡ pipe_of s.case.list.now e → n ≡ arc_of s.case.list.now e → x ≡ change (number_at s.old.now) s.rows.now n.from
      → y ≡ change (number_at s.old.now) s.rows.now n.to
      → SumRead dt r.a r.b k.c x y (pipe_imbalance s.case.list.now (number_at s.old.now) s.rows.now s.i e)
  unfolding pipe_imbalance
  sum_read {dt} {x} {y} {r} {k} {n} et er ek en ex ey =
      let z = pipe_sized s.case.yes e p.at.arc p.pipe in
      let d = read et (duration_sized s.case.yes s.i s.step) tt in
      let a = read (ap (λ (u : ArcRow). u.a) er) p.at.flows.a tt in
      let b = read (ap (λ (u : ArcRow). u.b) er) p.at.flows.b tt in
      let c = read (ap (λ (u : Pipe). u.c) ek) z.c tt in
      let f = read (ex ∙ ap (λ (u : Arc). change (number_at s.old.now) s.rows.now u.from) en) (change_sized _ (from_node s.case.yes e p.at.arc)) tt in
      let t = read (ey ∙ ap (λ (u : Arc). change (number_at s.old.now) s.rows.now u.to) en) (change_sized _ (to_node s.case.yes e p.at.arc)) tt in
      record {
        sizes = (read_bounded d, read_bounded a, read_bounded b, read_bounded c, read_bounded f, read_bounded t);
        total = loosen 100000000000000 (omega arith) (d *ʳ (a -ʳ b) -ʳ c *ʳ (f +ʳ t));
      }

  pub imbalance_sized : Bounded (pipe_imbalance s.case.list.now (number_at s.old.now) s.rows.now s.i e) 100000000000000
  unfolding pipe_imbalance
  imbalance_sized =
      let f = p.at.flows in
      let z = pipe_sized s.case.yes e p.at.arc p.pipe in
      let x = change_sized (arc_of s.case.list.now e).from (from_node s.case.yes e p.at.arc) in
      let y = change_sized (arc_of s.case.list.now e).to (to_node s.case.yes e p.at.arc) in
      let h = sized (duration_sized s.case.yes s.i s.step) *ʳ (sized f.a -ʳ sized f.b) -ʳ sized z.c *ʳ (sized x +ʳ sized y) in
      record { bound = omega (arith, h.bound) }

  pub balance_sized : Bounded (pressure_balance s.case.list.now s.rows.now e) 300000000000000
  unfolding pressure_balance
  balance_sized =
      let f = p.at.flows in
      let z = pipe_sized s.case.yes e p.at.arc p.pipe in
      let x = sized (s.pressures.each (arc_of s.case.list.now e).from (from_node s.case.yes e p.at.arc)) in
      let y = sized (s.pressures.each (arc_of s.case.list.now e).to (to_node s.case.yes e p.at.arc)) in
      let h = literal (pos 1000000) *ʳ (y -ʳ x) +ʳ sized z.f *ʳ sized f.a +ʳ sized z.g *ʳ sized f.b +ʳ sized z.h *ʳ (x +ʳ y) in
      record { bound = omega (arith, h.bound) }

-- ---- rules: of a function that goes by an arc's ends, and of one that goes by its station

pub ruleset end_laws = (from_in, to_in, from_small, to_small, compressing_kind)

pub ruleset station_laws = (own_in, offset_is, compresses, offset_machines)
