-- The parts before `i` are summed.
use Rattle.std.proofs.Common.{◌≡◌, ◌<◌, ◌≤◌, ◌*◌, ℕ, ℤ, nat_abs}
use Rattle.numbers.specs.law.Sums.{sum}
use Rattle.plan.specs.inside.SumSizes.{most_part}
use Rattle.plan.proofs.sums.sum.Given as goal

abbrev pub invariant-loop-i : goal.invariant-loop-i
invariant-loop-i g l = record {
  is : (f : ℕ → ℤ) → ((i : ℕ) → i < l.i → (r : ℤ) → g.F.Fn.post l.part (i, tt) r → r ≡ f i) → l.all ≡ sum l.i f;
  sized : nat_abs l.all ≤ l.i * most_part;
}
