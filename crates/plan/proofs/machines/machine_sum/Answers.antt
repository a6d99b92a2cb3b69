-- A machine more adds its part if the set names it, and its row is where the one before it ends.
use Rattle.plan.proofs.Common.{◌≡◌, refl, ap, ◌∙◌, ℕ, ◌<◌, arith, ℤ, w64, to_z, of_z, to_z-of_z}
use mathlib.Core.Path.{subst}
use Rattle.numbers.specs.law.Sets.{member_of}
use Rattle.numbers.specs.law.Sums.{sum, only}
use Rattle.case.specs.declared.records.Machine.{Machine}
use Rattle.case.specs.declared.records.Station.{Station}
use Rattle.case.specs.law.Layout.{machine_count}
use Rattle.case.specs.law.Records.{machine_row}
use Rattle.case.specs.law.Extents.{arc_capacity}
use Rattle.case.specs.inside.Near.{machine_here, machine_on}
use Rattle.plan.proofs.Adding.{more_fits, back_sized, back_is, sum_same, taken_part, left_part}
use Rattle.plan.proofs.machines.machine_sum.Goals as goal
use Rattle.plan.proofs.machines.machine_sum.Goals.{then-member, else-member}

pub loop-m-init : goal.loop-m-init
unfolding sum
loop-m-init g c = record {
  counted = ap (λ (y : Station). y.machines) c.station-machines.ensures;
  here = record { is = c.first_machine-at.ensures };
  is = λ f h. refl;
  sized = omega arith;
}

pub overflow_add-all : goal.overflow_add-all
overflow_add-all g c =
    let m = c.loop-m.m in
    let r = c.part-all.result in
    let few : m < arc_capacity = omega (arith, c.requires.few, c.loop-m.invariant.counted) in
    let e = subst (λ (x : Machine). g.F.Fn.post c.args.part (x, tt) r) (c.machine_from.ensures ∙ machine_here c.loop-m.invariant.here) c.part-all.ensures in
    more_fits m few (to_z w64 c.loop-m.all-bits) r c.loop-m.invariant.sized (c.requires.sized m (omega arith) r e)

pub loop-m-preserved : goal.loop-m-preserved
loop-m-preserved g c =
    let v = c.loop-m.invariant in
    let m = c.loop-m.m in
    let a = to_z w64 c.loop-m.all-bits in
    let few : m < arc_capacity = omega (arith, c.requires.few, v.counted) in
    let here = machine_on v.here c.past_machine-at.ensures in
    let part = λ (f : Machine → ℤ) (i : ℕ). only (member_of (to_z w64 (of_z w64 c.args.set)) i) (f (machine_row c.args.case.now c.args.offset i)) in
    elim c.if-member.branch [
      | then-member w ↦
          let r = w.part-all.result in
          let e = subst (λ (x : Machine). g.F.Fn.post c.args.part (x, tt) r) (w.machine_from.ensures ∙ machine_here v.here) w.part-all.ensures in
          let p = c.requires.sized m (omega arith) r e in
          record {
            counted = v.counted;
            here = here;
            is = λ f h. w.all-is ∙ back_is m few a r v.sized p (part f) (v.is f (λ j l r q. h j (omega (arith, l)) r q))
                (h m (omega arith) r e ∙ taken_part (f (machine_row c.args.case.now c.args.offset m)) c.member.ensures w.if-member.true);
            sized = rw w.all-is (back_sized m few a r v.sized p);
          }
      | else-member w ↦ record {
        counted = v.counted;
        here = here;
        is = λ f h. w.all-is ∙ sum_same (part f) m (v.is f (λ j l r q. h j (omega (arith, l)) r q))
            (left_part (f (machine_row c.args.case.now c.args.offset m)) c.member.ensures w.if-member.false);
        sized = rw w.all-is (omega (arith, v.sized));
      }
    ]

pub returns : goal.returns
returns g c = λ f h.
    let e : c.loop-m.m ≡ machine_count c.args.case.now c.args.offset = omega (arith, c.loop-m.invariant.counted) in
    rw (e, to_z-of_z c.ranges.set) at (c.loop-m.invariant.is f (λ j l r q. h j (omega (arith, l)) r q))
