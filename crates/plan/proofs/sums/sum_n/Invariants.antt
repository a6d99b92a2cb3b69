-- The parts before `i` are summed.
use Rattle.std.proofs.Common.{◌≡◌, ◌<◌, ◌≤◌, ◌*◌, ℕ}
use Rattle.numbers.specs.law.Sums.{sum_n}
use Rattle.plan.specs.inside.SumSizes.{most_part}
use Rattle.plan.proofs.sums.sum_n.Given as goal

abbrev pub invariant-loop-i : goal.invariant-loop-i
invariant-loop-i g l = record {
  is : (f : ℕ → ℕ) → ((i : ℕ) → i < l.i → (r : ℕ) → g.F.Fn.post l.part (i, tt) r → r ≡ f i) → l.all ≡ sum_n l.i f;
  sized : l.all ≤ l.i * most_part;
}
