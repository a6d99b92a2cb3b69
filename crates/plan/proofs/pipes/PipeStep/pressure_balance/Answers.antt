-- The seven numbers are read as case and plan have them, and are so small that each sum and product of 29 fits.
use Rattle.plan.proofs.Common.{◌≡◌, ap, ◌∙◌, arith, ℕ, ℤ, pos, ◌+ℤ◌, ◌-ℤ◌, w64, to_z, of_z, Held, held, held_fits, literal, ◌+ʳ◌, ◌-ʳ◌, ◌*ʳ◌}
use mathlib.Core.List.{List}
use lib.IntN.{◌*ℤ◌}
use Rattle.case.specs.declared.records.Arc.{Arc}
use Rattle.case.specs.declared.records.Pipe.{Pipe}
use Rattle.case.specs.law.Records.{arc_of, pipe_of}
use Rattle.plan.specs.declared.rows.ArcRow.{ArcRow}
use Rattle.plan.specs.declared.step.Step.{Step}
use Rattle.plan.specs.law.PlanRecords.{pressure_in, arc_row}
use Rattle.plan.specs.law.Pipes.{pressure_balance}
use Rattle.plan.specs.inside.CaseSizes.{from_node, to_node, pipe_sized}
use Rattle.plan.specs.inside.StepArcs.{AtPipe}
use Rattle.plan.proofs.ArcLaws.{from_small, to_small}
use Rattle.plan.proofs.SignedReads.{read}
use Rattle.plan.proofs.pipes.PipeStep.pressure_balance.Goals as goal

-- a local of the code
abbrev r : ℤ → ℤ
r z = to_z w64 (of_z w64 z)

-- the sums of 29 in whole numbers
module _ (case rows : List ℤ) (e : ℕ) where
  abbrev first : ℤ
  first =
      pos 1000000 *ℤ (pressure_in rows (arc_of case e).to -ℤ pressure_in rows (arc_of case e).from)
      +ℤ (pipe_of case e).f *ℤ (arc_row case rows e).a

  abbrev second : ℤ
  second = first +ℤ (pipe_of case e).g *ℤ (arc_row case rows e).b

-- what was read, and the sums of 29 as the code takes them
module _ {s : Step} {e : ℕ} (p : AtPipe s e) {n : Arc} {k : Pipe} {v : ArcRow} {x y : ℤ}
    (en : n ≡ arc_of s.case.list.now e) (ek : k ≡ pipe_of s.case.list.now e) (ev : v ≡ arc_row s.case.list.now s.rows.now e)
    (ex : x ≡ pressure_in s.rows.now n.from) (ey : y ≡ pressure_in s.rows.now n.to) where
  from : Held (r x) (pressure_in s.rows.now (arc_of s.case.list.now e).from) 200000
  from = read (ex ∙ ap (λ (u : Arc). pressure_in s.rows.now u.from) en) (s.pressures.each _ (from_node s.case.yes e p.at.arc)) tt

  to : Held (r y) (pressure_in s.rows.now (arc_of s.case.list.now e).to) 200000
  to = read (ey ∙ ap (λ (u : Arc). pressure_in s.rows.now u.to) en) (s.pressures.each _ (to_node s.case.yes e p.at.arc)) tt

  drop : Held (r y -ℤ r x) (pressure_in s.rows.now (arc_of s.case.list.now e).to -ℤ pressure_in s.rows.now (arc_of s.case.list.now e).from) 400000
  drop = to -ʳ from

  ends : Held (r x +ℤ r y) (pressure_in s.rows.now (arc_of s.case.list.now e).from +ℤ pressure_in s.rows.now (arc_of s.case.list.now e).to) 400000
  ends = from +ʳ to

  at_from : Held (r k.f *ℤ r v.a) ((pipe_of s.case.list.now e).f *ℤ (arc_row s.case.list.now s.rows.now e).a) 100000000000000
  at_from =
      let f = read (ap (λ (u : Pipe). u.f) ek) (pipe_sized s.case.yes e p.at.arc p.pipe).f tt in
      f *ʳ read (ap (λ (u : ArcRow). u.a) ev) p.at.flows.a tt

  at_to : Held (r k.g *ℤ r v.b) ((pipe_of s.case.list.now e).g *ℤ (arc_row s.case.list.now s.rows.now e).b) 100000000000000
  at_to =
      let g = read (ap (λ (u : Pipe). u.g) ek) (pipe_sized s.case.yes e p.at.arc p.pipe).g tt in
      g *ʳ read (ap (λ (u : ArcRow). u.b) ev) p.at.flows.b tt

  slope : Held (r k.h *ℤ r (r x +ℤ r y))
      ((pipe_of s.case.list.now e).h *ℤ (pressure_in s.rows.now (arc_of s.case.list.now e).from +ℤ pressure_in s.rows.now (arc_of s.case.list.now e).to))
      80000000000
  slope = read (ap (λ (u : Pipe). u.h) ek) (pipe_sized s.case.yes e p.at.arc p.pipe).h tt *ʳ held ends tt

  scaled : Held (pos 1000000 *ℤ r (r y -ℤ r x))
      (pos 1000000 *ℤ (pressure_in s.rows.now (arc_of s.case.list.now e).to -ℤ pressure_in s.rows.now (arc_of s.case.list.now e).from)) 400000000000
  scaled = literal (pos 1000000) *ʳ held drop tt

  one : Held (r (pos 1000000 *ℤ r (r y -ℤ r x)) +ℤ r (r k.f *ℤ r v.a)) (first s.case.list.now s.rows.now e) 100400000000000
  one = held scaled tt +ʳ held at_from tt

  two : Held (r (r (pos 1000000 *ℤ r (r y -ℤ r x)) +ℤ r (r k.f *ℤ r v.a)) +ℤ r (r k.g *ℤ r v.b)) (second s.case.list.now s.rows.now e) 200400000000000
  two = held one tt +ʳ held at_to tt

  all : Held (r (r (r (pos 1000000 *ℤ r (r y -ℤ r x)) +ℤ r (r k.f *ℤ r v.a)) +ℤ r (r k.g *ℤ r v.b)) +ℤ r (r k.h *ℤ r (r x +ℤ r y)))
      (pressure_balance s.case.list.now s.rows.now e) 200480000000000
  unfolding pressure_balance
  all = held two tt +ʳ held slope tt

pub pressure-from-requires : goal.pressure-from-requires
pressure-from-requires c = omega (arith, from_small c.args.self.now.step.case.yes c.args.self.now.at.at.arc c.arc-c.ensures)

pub pressure-to-requires : goal.pressure-to-requires
pressure-to-requires c = omega (arith, to_small c.args.self.now.step.case.yes c.args.self.now.at.at.arc c.arc-c.ensures)

pub overflow_sub-result : goal.overflow_sub-result
overflow_sub-result c =
    held_fits (drop c.args.self.now.at c.arc-c.ensures c.pipe-x.ensures c.arc_row-r.ensures c.pressure-from.ensures c.pressure-to.ensures) tt

pub overflow_mul-result : goal.overflow_mul-result
overflow_mul-result c =
    held_fits (scaled c.args.self.now.at c.arc-c.ensures c.pipe-x.ensures c.arc_row-r.ensures c.pressure-from.ensures c.pressure-to.ensures) tt

pub overflow_mul-result-2 : goal.overflow_mul-result-2
overflow_mul-result-2 c =
    held_fits (at_from c.args.self.now.at c.arc-c.ensures c.pipe-x.ensures c.arc_row-r.ensures c.pressure-from.ensures c.pressure-to.ensures) tt

pub overflow_add-result : goal.overflow_add-result
overflow_add-result c =
    held_fits (one c.args.self.now.at c.arc-c.ensures c.pipe-x.ensures c.arc_row-r.ensures c.pressure-from.ensures c.pressure-to.ensures) tt

pub overflow_mul-result-3 : goal.overflow_mul-result-3
overflow_mul-result-3 c =
    held_fits (at_to c.args.self.now.at c.arc-c.ensures c.pipe-x.ensures c.arc_row-r.ensures c.pressure-from.ensures c.pressure-to.ensures) tt

pub overflow_add-result-2 : goal.overflow_add-result-2
overflow_add-result-2 c =
    held_fits (two c.args.self.now.at c.arc-c.ensures c.pipe-x.ensures c.arc_row-r.ensures c.pressure-from.ensures c.pressure-to.ensures) tt

pub overflow_add-result-3 : goal.overflow_add-result-3
overflow_add-result-3 c =
    held_fits (ends c.args.self.now.at c.arc-c.ensures c.pipe-x.ensures c.arc_row-r.ensures c.pressure-from.ensures c.pressure-to.ensures) tt

pub overflow_mul-result-4 : goal.overflow_mul-result-4
overflow_mul-result-4 c =
    held_fits (slope c.args.self.now.at c.arc-c.ensures c.pipe-x.ensures c.arc_row-r.ensures c.pressure-from.ensures c.pressure-to.ensures) tt

pub overflow_add-result-4 : goal.overflow_add-result-4
overflow_add-result-4 c =
    held_fits (all c.args.self.now.at c.arc-c.ensures c.pipe-x.ensures c.arc_row-r.ensures c.pressure-from.ensures c.pressure-to.ensures) tt

pub returns : goal.returns
returns c = (held (all c.args.self.now.at c.arc-c.ensures c.pipe-x.ensures c.arc_row-r.ensures c.pressure-from.ensures c.pressure-to.ensures) tt).val
