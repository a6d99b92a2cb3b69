-- The balance of a region over the steps from time s to time t.
use Rattle.std.specs.Prelude.{◌≡◌, Bool, List, ℤ, ◌-ℤ◌}
use Rattle.std.proofs.Math.Path.{sym, ap}
use Rattle.std.proofs.Common.{◌∙◌, le_of_eq}
use Prim.Native.Nat.{ℕ, suc, ◌+◌, ◌-◌, ◌≤◌}
use native.Mathlib.Omega.{arith}
use Rattle.std.proofs.Math.Nat.{le_trans}
use Rattle.std.proofs.Math.IntN.{nat_abs}
use Rattle.numbers.specs.law.Sums.{sum}
use Rattle.numbers.specs.inside.SumLaws.{sum_sub, sum_tele, abs_sum, sum_n_le}
use Rattle.plan.specs.law.PlanLayout.{step_rows}
use Rattle.plan.specs.law.BeforeStep.{pressure_at}
use Rattle.plan.specs.law.RegionFigures.{gas_inside, brought_at, residual_at, brought_over, residual_over}
use Rattle.plan.specs.inside.RegionBalance.{EndsAreNodes, step_balance}

module _ (case plan : List ℤ) (inside : ℕ → Bool) (ends : EndsAreNodes case) (s : ℕ) where
  -- what the step with index s + j leaves over
  leaves : ℕ → ℤ
  leaves j = gas_inside case plan inside (s + suc j) -ℤ gas_inside case plan inside (s + j) -ℤ brought_at case plan inside s j

  at_most : (j : ℕ) → nat_abs (leaves j) ≤ residual_at case plan inside s j
  unfolding leaves gas_inside brought_at residual_at pressure_at
  at_most j =
      let e : s + suc j ≡ suc (s + j) = omega arith in
      rw e (step_balance case inside (step_rows case plan (s + j)) (pressure_at case plan (s + j)) (s + j) ends)

  total : (k : ℕ) → gas_inside case plan inside (s + k) -ℤ gas_inside case plan inside s -ℤ sum k (brought_at case plan inside s) ≡ sum k leaves
  unfolding leaves
  total k =
      let first = ap (λ (i : ℕ). gas_inside case plan inside (s + k) -ℤ gas_inside case plan inside i) zeroth in
      ap (λ z. z -ℤ sum k (brought_at case plan inside s)) (first ∙ sym (sum_tele k (λ j. gas_inside case plan inside (s + j))))
      ∙ sym (sum_sub k (λ j. gas_inside case plan inside (s + suc j) -ℤ gas_inside case plan inside (s + j)) (brought_at case plan inside s))
    where
      zeroth : s ≡ s + 0
      zeroth = omega arith

  pub region_balance : (t : ℕ) → s ≤ t
      → nat_abs (gas_inside case plan inside t -ℤ gas_inside case plan inside s -ℤ brought_over case plan inside s t) ≤ residual_over case plan inside s t
  unfolding brought_over residual_over
  region_balance t h =
      let e : s + (t - s) ≡ t = omega arith in
      le_trans (le_of_eq (ap nat_abs (rw e at (total (t - s)))))
      (le_trans (abs_sum (t - s) leaves) (sum_n_le (t - s) (λ j. nat_abs (leaves j)) (residual_at case plan inside s) (λ j l. at_most j)))
