-- The parts of the machines before `m` that the set names are summed, and the next machine's row begins at `at`.
use Rattle.std.proofs.Common.{◌≡◌, ◌<◌, ◌≤◌, ◌*◌, ℕ, ℤ, nat_abs}
use Rattle.numbers.specs.law.Sets.{member_of}
use Rattle.numbers.specs.law.Sums.{sum, only}
use Rattle.case.specs.law.Layout.{machine_count}
use Rattle.case.specs.law.Records.{machine_row}
use Rattle.case.specs.inside.Near.{MachineHere}
use Rattle.case.specs.declared.records.Machine.{Machine}
use Rattle.plan.specs.inside.SumSizes.{most_part}
use Rattle.plan.proofs.machines.machine_sum.Given as goal

abbrev pub invariant-loop-m : goal.invariant-loop-m
invariant-loop-m g l = record {
  counted : l.machines ≡ machine_count l.case l.offset;
  here : MachineHere l.case l.offset l.m l.at;
  is : (f : Machine → ℤ)
      → ((i : ℕ) → i < l.m → (r : ℤ) → g.F.Fn.post l.part (machine_row l.case l.offset i, tt) r → r ≡ f (machine_row l.case l.offset i))
      → l.all ≡ sum l.m (λ i. only (member_of l.fn.set i) (f (machine_row l.case l.offset i)));
  sized : nat_abs l.all ≤ l.m * most_part;
}
