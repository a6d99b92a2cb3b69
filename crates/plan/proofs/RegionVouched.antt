-- The way to demand 3: 28 and 33 of an accepted plan bound each residual by E, and the balance of the steps is added up. That 40 and 41 pass a set of nodes
-- and times in their order stands in specs/inside/RegionVouched.antt.
use Rattle.std.specs.Prelude.{◌≡◌, Bool, false, not, ◌||◌, List, ℕ, ◌+◌, ◌*◌, ◌-◌, ◌≤◌, ◌<◌, ℤ, pos, negsuc, ◌-ℤ◌, ◌*ℤ◌, ◌≤ℤ◌, Ok}
use Rattle.std.proofs.Common.{arith}
use Rattle.std.proofs.Math.Bool.{true}
use Rattle.std.specs.Int.Signed.{le_z}
use Rattle.numbers.specs.law.Signed.{pos_part}
use Rattle.numbers.specs.inside.SignedParts.{size, ints}
use Rattle.numbers.specs.inside.SignedLinear.{v, ◌⊟◌, ◌⊠◌, le! }
use Rattle.numbers.specs.law.Sets.{member_of}
use Rattle.numbers.specs.law.Sums.{count}
use Rattle.case.specs.law.Layout.{nodes_of, arcs_of, steps_of, mass_tolerance}
use Rattle.plan.specs.declared.totals.Totals.{Totals}
use Rattle.plan.specs.law.PlanLayout.{step_rows}
use Rattle.plan.specs.law.BeforeStep.{pressure_at}
use Rattle.plan.specs.law.Pipes.{is_pipe, pipe_residual, pipe_mass_kept}
use Rattle.plan.specs.law.Balance.{node_residual, balance_kept}
use Rattle.plan.specs.law.Judged.{verdict_told, judge_of}
use Rattle.plan.specs.law.Region.{inner_pipes}
use Rattle.plan.specs.law.RegionFigures.{residual_over, figures_of}
use Rattle.plan.specs.law.Ledger.{times_ordered, ledger_is}
use Rattle.plan.specs.inside.Preconditions.{AcceptedCase}
use Rattle.plan.specs.inside.CaseSizes.{counted}
use Rattle.plan.specs.claims.Acceptance.{PlanRules, sound}
use Rattle.plan.specs.inside.RegionBalance.{EndsAreNodes}
use Rattle.plan.specs.inside.RegionSizes.{ends_nodes}
use Rattle.plan.proofs.RegionBalanceSteps.{region_balance}
use Rattle.plan.specs.inside.RegionBalanceBound.{residual_bound}
use Rattle.plan.specs.law.Vouched.{Balanced, Vouched}
use Rattle.plan.specs.inside.RegionVouched.{times_of, region_given, region_nodes, region_times}

-- a bound by naturals, as one by signed numbers
product : (r m : ℕ) (s t e : ℤ) → le_z (pos 0) s ≡ true → le_z s t ≡ true → le_z (pos 0) e ≡ true → r ≤ m * (pos_part t - pos_part s) * pos_part e
    → pos r ≤ℤ (pos m *ℤ (t -ℤ s) *ℤ e)
product r m (pos s) (pos t) (pos e) h k l b =
    let d : t ≡ s + (t - s) = omega ints in
    go (t - s) d b
  where
    go : (d : ℕ) → t ≡ s + d → r ≤ m * d * e → pos r ≤ℤ (pos m *ℤ (pos t -ℤ pos s) *ℤ pos e)
    go d p q = le! (v (pos r)) (v (pos m) ⊠ (v (pos t) ⊟ v (pos s)) ⊠ v (pos e)) (rw p (omega arith))
product r m (negsuc s) t e h k l b = let f : ⊥ = omega (ints, size t) in absurd f
product r m (pos s) (negsuc t) e h k l b = let f : ⊥ = omega ints in absurd f
product r m (pos s) (pos t) (negsuc e) h k l b = let f : ⊥ = omega ints in absurd f

-- 28 and 33 of an accepted plan, and what the balance needs of its case
record Sound (case plan : List ℤ) : Type 0 where
  ends : EndsAreNodes case
  tolerance : le_z (pos 0) (mass_tolerance case) ≡ true
  pipes : (i e : ℕ) → i < steps_of case → e < arcs_of case → is_pipe case e ≡ true
      → pipe_residual case (pressure_at case plan i) (step_rows case plan i) i e ≤ pos_part (mass_tolerance case)
  nodes : (i u : ℕ) → i < steps_of case → u < nodes_of case → node_residual case (step_rows case plan i) i u ≤ pos_part (mass_tolerance case)

or_second : (a b : Bool) → a ≡ true → not a || b ≡ true → b ≡ true
or_second true b e h = h
or_second false b e h = let z : ◌≡◌ {A = ℕ} 0 1 = cc in let f : ⊥ = omega arith in absurd f

sound_of : {case plan : List ℤ} → PlanRules case plan → Sound case plan
unfolding pipe_mass_kept balance_kept
sound_of {case} {plan} r =
    let c : AcceptedCase case = record { yes = r.case_yes } in
    let n = counted c in
    let m = mass_tolerance case in
    let first = (r.steps 0 (omega (arith, n.some_step))).rule33 0 (omega (arith, n.some_node)) in
    record {
      ends = ends_nodes c;
      tolerance = omega (ints, first, size m);
      pipes = λ i e p q k. let y = or_second (is_pipe case e) _ k ((r.steps i p).arcs e q).rule28 in omega (ints, y, size m);
      nodes = λ i u p q. let y = (r.steps i p).rule33 u q in omega (ints, y, size m);
    }

-- whatever nodes are inside
module _ (case plan : List ℤ) (inside : ℕ → Bool) (s t : ℤ) (totals : Totals) (accepted : judge_of case plan ≡ verdict_told (Ok totals))
    (times : times_ordered case s t ≡ true) where
  pub region_balanced : Balanced case s t (figures_of case plan inside (pos_part s) (pos_part t))
  unfolding figures_of
  region_balanced =
      let k = times_of case s t times in
      let r = sound_of (sound case plan totals accepted) in
      let a = pos_part s in
      let b = pos_part t in
      let e = pos_part (mass_tolerance case) in
      let upto : b ≤ steps_of case = omega (ints, k.last, size t) in
      record {
        balance = let h = region_balance case plan inside r.ends a b (omega (ints, k.order, k.first, size s, size t)) in omega ints;
        bound =
            let n = count (nodes_of case) inside + inner_pipes case inside in
            let h = residual_bound case plan inside e a b (λ u i p l q. r.nodes i u (omega arith) p) (λ x i p k l q. r.pipes i x (omega arith) p k) in
            product (residual_over case plan inside a b) n s t (mass_tolerance case) k.first k.order r.tolerance h;
      }

-- ---- the same where the hypotheses are plain

pub region_vouched : (case plan : List ℤ) (set s t : ℤ) → Vouched case plan set s t (ledger_is case plan set s t)
region_vouched case plan set s t = record {
  answers = λ totals a r. region_given case plan set s t totals a (region_nodes case plan set s t totals a r) (region_times case plan set s t totals a r);
  balances = λ totals a r. region_balanced case plan (member_of set) s t totals a (region_times case plan set s t totals a r);
}
