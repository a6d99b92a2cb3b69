-- The loop over the steps: what is gathered before the step with index i. One turn of it is proofs/RegionTurn.antt's.
use Rattle.std.specs.Prelude.{◌≡◌, Bool, List, ℤ, pos, length, Ok}
use Rattle.std.proofs.Common.{sym, ◌∙◌, subst, mul-le-mul, mul-le-mul_right}
use Prim.Native.Nat.{ℕ, zero, suc, ◌+◌, ◌*◌, ◌-◌, ◌<◌, ◌≤◌}
use native.Mathlib.Omega.{arith}
use Rattle.std.proofs.Math.IntN.{nat_abs}
use Rattle.numbers.specs.law.Question.{first_no}
use Rattle.numbers.specs.inside.SignedBounds.{Bounded}
use Rattle.numbers.specs.law.Sums.{sum, sum_n}
use Rattle.plan.specs.inside.SumSizes.{most_brought, most_residual, most_step_width}
use Rattle.case.specs.law.Layout.{number_at, nodes_of, steps_of}
use Rattle.case.specs.law.LayoutOf.{Holds}
use Rattle.plan.specs.declared.region.Gathered.{Gathered}
use Rattle.plan.specs.law.PlanLayout.{step_width, step_at, step_rows}
use Rattle.plan.specs.law.PlanRecords.{pressure_in}
use Rattle.plan.specs.law.BeforeStep.{start_pressure, pressure_at}
use Rattle.plan.specs.law.Step.{step_questions}
use Rattle.plan.specs.inside.Sizes.{PressuresSized, NodesSized}
use Rattle.plan.specs.inside.Preconditions.{AcceptedCase, PlanLaid, StepKept}
use Rattle.plan.specs.inside.CaseSizes.{counted, node_sized}
use Rattle.plan.specs.inside.AnsweredSizes.{nodes_sized, nodes_yes, step_kept}
use Rattle.plan.specs.inside.StepAlike.{step_alike}
use Rattle.plan.specs.claims.Acceptance.{PlanRules, rules_step}
use Rattle.plan.specs.law.Region.{region_gas}
use Rattle.plan.specs.law.RegionFigures.{brought_at, residual_at, gas_inside}
use Rattle.plan.specs.inside.RegionBalance.{EndsAreNodes}
use Rattle.plan.specs.inside.RegionPreconditions.{RegionRoom}
use Rattle.plan.specs.inside.RegionSizes.{ends_nodes}
use Rattle.plan.specs.inside.RegionSame.{gas_same}

-- before the step with index i: the pressures, and the sums over the steps from index s on
pub record Gathering (case plan : List ℤ) (inside : ℕ → Bool) (s i : ℕ) (g : Gathered) : Type 0 where
  pub from : s ≤ i
  pub held : Holds (pos 0) g.pressures (pressure_at case plan i) (nodes_of case)
  pub brought : g.brought ≡ sum (i - s) (brought_at case plan inside s)
  pub residual : g.residual ≡ sum_n (i - s) (residual_at case plan inside s)
  pub brought_few : nat_abs g.brought ≤ i * most_brought
  pub residual_few : g.residual ≤ i * most_residual

module _ {case plan : List ℤ} (r : PlanRules case plan) where
  pub accepted_case : AcceptedCase case
  accepted_case = record { yes = r.case_yes }

  pub ends_of : EndsAreNodes case
  ends_of = ends_nodes accepted_case

  step_yes : (i : ℕ) → i < steps_of case → first_no (step_questions case (pressure_at case plan i) (step_rows case plan i) i) ≡ Ok tt
  step_yes i l = rules_step case (pressure_at case plan i) (step_rows case plan i) i (r.steps i l)

  rows_sized : (i : ℕ) → i < steps_of case → NodesSized case (step_rows case plan i)
  rows_sized i l = nodes_sized case _ i accepted_case l (nodes_yes case (pressure_at case plan i) (step_rows case plan i) i (step_yes i l))

  -- the pressures at every time are in range
  sized_at : (t : ℕ) → t ≤ steps_of case → (u : ℕ) → u < nodes_of case → Bounded (pressure_at case plan t u) 200000
  unfolding pressure_at
  sized_at zero h u l = (node_sized accepted_case u l 0 (omega (arith, (counted accepted_case).some_step))).p0
  sized_at (suc i) h u l = ((rows_sized i (omega arith)).each u l).p

  pub pressures_held : {p : List ℤ} (t : ℕ) → t ≤ steps_of case → Holds (pos 0) p (pressure_at case plan t) (nodes_of case)
      → PressuresSized (number_at p) (nodes_of case)
  pressures_held t h k = record { each = λ u l. subst (λ (z : ℤ). Bounded z 200000) (sym (k.each u l)) (sized_at t h u l) }

  -- the gas, by pressures that an array holds
  pub gas_held : {p : List ℤ} (inside : ℕ → Bool) (t : ℕ) → Holds (pos 0) p (pressure_at case plan t) (nodes_of case)
      → region_gas case inside (number_at p) ≡ gas_inside case plan inside t
  unfolding gas_inside
  gas_held {p} inside t k = gas_same case (number_at p) (pressure_at case plan t) ends_of k.each inside

  -- a step, by pressures that an array holds
  pub step_handed : {old : List ℤ} (i : ℕ) → i < steps_of case → Holds (pos 0) old (pressure_at case plan i) (nodes_of case)
      → StepKept case old (step_rows case plan i) i
  step_handed {old} i l k =
      let rows = step_rows case plan i in
      let y = step_alike accepted_case (number_at old) (pressure_at case plan i) k.each rows i ∙ step_yes i l in
      step_kept case old rows i accepted_case l (pressures_held i (omega arith) k) y

  pub room : {inside : ℕ → Bool} {s i : ℕ} {g : Gathered} → Gathering case plan inside s i g → i < steps_of case → RegionRoom g
  room h l =
      let n = counted accepted_case in
      record {
        brought = record { bound = omega (arith, h.brought_few, n.steps) };
        residual = omega (arith, h.residual_few, n.steps);
      }

pub gathering : {case plan : List ℤ} {inside : ℕ → Bool} {s : ℕ} {p : List ℤ} → Holds (pos 0) p (pressure_at case plan s) (nodes_of case)
    → Gathering case plan inside s s (record { pressures = p; brought = pos 0; residual = 0 })
unfolding sum sum_n
gathering {s = s} h =
    let e : s - s ≡ 0 = omega arith in
    record { from = omega arith; held = h; brought = rw e; residual = rw e; brought_few = omega arith; residual_few = omega arith }

-- what is gathered before an index is so before an equal one
pub upto : {case plan : List ℤ} {inside : ℕ → Bool} {s i t : ℕ} {g : Gathered} → Gathering case plan inside s i g → i ≡ t
    → Gathering case plan inside s t g
upto {case} {plan} {inside} {s} {g = g} h e = subst (λ (i : ℕ). Gathering case plan inside s i g) e h

-- ---- the part of a step in the plan's list

pub narrow : (case : List ℤ) → AcceptedCase case → step_width case ≤ most_step_width
unfolding step_width
narrow case c = let n = counted c in omega (arith, n.nodes, n.arcs, n.stations)

-- the parts of the steps before, all together
pub parts_near : (case : List ℤ) → AcceptedCase case → (i : ℕ) → i ≤ 48 → i * step_width case ≤ 48 * most_step_width
parts_near case c i l = mul-le-mul l (narrow case c)

pub part_within : (case plan : List ℤ) → AcceptedCase case → PlanLaid case plan → (i : ℕ) → i < steps_of case
    → 2 + i * step_width case + step_width case ≤ length plan
unfolding step_at
part_within case plan c p i l =
    let a : suc i * step_width case ≤ steps_of case * step_width case = mul-le-mul_right (step_width case) l in
    omega (arith, p.long)

-- ---- the pressures at a time, as an array holds them

module _ (case plan : List ℤ) {p : List ℤ} {t : ℕ} where
  pub pressures_first : t ≡ 0 → Holds (pos 0) p (start_pressure case) (nodes_of case) → Holds (pos 0) p (pressure_at case plan t) (nodes_of case)
  unfolding pressure_at
  pressures_first z h = rw z h

  pub pressures_after : 0 < t → {rows : List ℤ} → rows ≡ step_rows case plan (t - 1) → Holds (pos 0) p (pressure_in rows) (nodes_of case)
      → Holds (pos 0) p (pressure_at case plan t) (nodes_of case)
  unfolding pressure_at
  pressures_after z q h = let s : t ≡ suc (t - 1) = omega arith in rw s (rw q at h)

-- ---- rules: of the pressures at a time, and of one turn

pub ruleset pressures_told = (pressures_first, pressures_after)

pub ruleset step_asked = (step_handed, room)
