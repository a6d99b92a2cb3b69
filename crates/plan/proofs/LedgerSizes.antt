-- The numbers of the ledger fit what an export hands on.
use Rattle.std.specs.Prelude.{◌≡◌, List, ℕ, ◌+◌, ◌*◌, ◌≤◌, ◌^◌, ℤ, ◌-ℤ◌, ◌*ℤ◌, Ok, Err}
use Rattle.std.proofs.Math.Path.{refl, ap}
use Rattle.std.proofs.Common.{mul-le-mul}
use native.Mathlib.Omega.{arith}
use Rattle.std.proofs.Math.IntN.{pos, nat_abs}
use Rattle.numbers.specs.law.Told.{Told}
use Rattle.numbers.specs.law.Question.{first_no, Answer, found}
use Rattle.numbers.specs.inside.QuestionLaws.{all_yes}
use Rattle.numbers.specs.law.Sets.{member_of}
use Rattle.numbers.specs.inside.SignedParts.{ints, taken, size}
use Rattle.numbers.specs.inside.SignedBounds.{abs_mul}
use Rattle.numbers.specs.law.Sums.{count}
use Rattle.numbers.specs.inside.SmallRefusals.{Small}
use Rattle.numbers.specs.inside.SumLaws.{count_most}
use Rattle.case.specs.law.Extents.{arc_capacity, node_capacity}
use Rattle.case.specs.law.Layout.{nodes_of, arcs_of, mass_tolerance}
use Rattle.case.specs.inside.FieldLaws.{first_yes, second_yes}
use Rattle.case.specs.inside.SmallRefusals.{limit}
use Rattle.plan.specs.inside.CaseSizes.{counted, mass_sized}
use Rattle.plan.specs.law.Totals.{totals_of}
use Rattle.plan.specs.law.Judged.{questions, verdict_told, judge_of}
use Rattle.plan.specs.law.Region.{inner_pipe, inner_pipes}
use Rattle.plan.specs.law.RegionFigures.{figures_of}
use Rattle.plan.specs.inside.RegionVouched.{times_of}
use Rattle.plan.specs.law.Ledger.{region_questions, ledger_questions, ledger_told, figures_for, ledger_of, Ledger}
use Rattle.plan.specs.inside.SmallRefusals.{ledger_small}
use Rattle.plan.specs.inside.VerdictSizes.{FitLedger, accepted, values, at, refused_same}
use Rattle.plan.proofs.RegionVouched.{region_balanced}

module _ (case plan : List ℤ) (set s t : ℤ) where
  -- the figures of a region of an accepted plan
  figures_fit : first_no (ledger_questions case plan set s t) ≡ Ok tt → FitLedger (2 ^ 63) (Ok (figures_for case plan set s t))
  unfolding ledger_questions region_questions judge_of inner_pipes figures_of
  figures_fit y =
      let j = first_yes (questions case plan) (region_questions case set s t) y in
      let r = all_yes (region_questions case set s t) (second_yes (questions case plan) (region_questions case set s t) y) in
      let c = counted (accepted case plan j) in
      let inside = member_of set in
      let told : judge_of case plan ≡ verdict_told (Ok (totals_of case plan)) = rw j in
      let k = times_of case s t r.1.0 in
      let b = region_balanced case plan (member_of set) s t (totals_of case plan) told r.1.0 in
      let h = b.bound in
      let n : count (nodes_of case) inside ≤ node_capacity = omega (arith, count_most (nodes_of case) inside, c.nodes) in
      let p : inner_pipes case inside ≤ arc_capacity = omega (arith, count_most (arcs_of case) (inner_pipe case inside), c.arcs) in
      let m = (mass_sized (accepted case plan j)).bound in
      let d : nat_abs (t -ℤ s) ≤ 48 = omega (ints, k.first, k.order, k.last, size s, size t, taken t s, size (t -ℤ s), c.steps) in
      let x = pos (count (nodes_of case) inside + inner_pipes case inside) in
      let a : nat_abs (x *ℤ (t -ℤ s) *ℤ mass_tolerance case) ≤ (node_capacity + arc_capacity) * 48 * 1000000 =
      rw (abs_mul (x *ℤ (t -ℤ s)) (mass_tolerance case), abs_mul x (t -ℤ s)) (mul-le-mul (mul-le-mul (sum_le n p) d) m) in
      (omega (arith, n), omega (arith, p), omega (ints, h, a, size (x *ℤ (t -ℤ s) *ℤ mass_tolerance case)))
    where
      sum_le : {a b : ℕ} → a ≤ node_capacity → b ≤ arc_capacity → a + b ≤ node_capacity + arc_capacity
      sum_le h k = omega (arith, h, k)

  pub ledger_fits : (v : Ledger) → ledger_told v ≡ ledger_of case plan set s t → FitLedger (2 ^ 63) v
  unfolding ledger_of values at
  ledger_fits v e = go (first_no (ledger_questions case plan set s t)) refl (ledger_small case plan set s t) v e
    where
      go : (a : Answer) → first_no (ledger_questions case plan set s t) ≡ a → Small limit a → (v : Ledger)
          → ledger_told v ≡ ledger_told (found a (figures_for case plan set s t)) → FitLedger (2 ^ 63) v
      go (Ok tt) y w (Ok f) e =
          let k = figures_fit y in
          (omega (arith, ap (λ (x : Told). at x 0) e, k.0), omega (arith, ap (λ (x : Told). at x 1) e, k.1), omega (arith, ap (λ (x : Told). at x 5) e, k.2))
      go (Ok _) y w (Err m) e = let f : ⊥ = omega (arith, ap values e) in absurd f
      go (Err n) y w (Ok g) e = let f : ⊥ = omega (arith, ap values e) in absurd f
      go (Err n) y w (Err m) e = let k = refused_same e in (omega arith, omega arith, omega arith)
