-- 28 and 29, of one pipe in one step. `old v` is the pressure of node v before the step.
-- Assumes nothing.
use Rattle.std.specs.Prelude.{Bool, not, ◌||◌, List, ℕ, eqb, ℤ, pos, nat_abs, ◌+ℤ◌, ◌-ℤ◌, ◌*ℤ◌}
use Rattle.std.specs.Int.Signed.{le_z}
use Rattle.case.specs.law.Layout.{mass_tolerance, pressure_tolerance}
use Rattle.case.specs.law.Records.{time_of, time_before, arc_of, pipe_of}
use Rattle.plan.specs.law.PlanRecords.{pressure_in, arc_row}

-- dt
unfoldable pub duration : List ℤ → ℕ → ℤ
duration case i = time_of case i -ℤ time_before case i

abbrev pub is_pipe : List ℤ → ℕ → Bool
is_pipe case e = eqb (arc_of case e).kind 2

-- the change of p at a node
abbrev pub change : (ℕ → ℤ) → List ℤ → ℕ → ℤ
change old rows v = pressure_in rows v -ℤ old v

-- "dt × (a - b) - c × (change of p at from + change at to)"
unfoldable pub pipe_imbalance : List ℤ → (ℕ → ℤ) → List ℤ → ℕ → ℕ → ℤ
pipe_imbalance case old rows i e =
    duration case i *ℤ ((arc_row case rows e).a -ℤ (arc_row case rows e).b)
    -ℤ (pipe_of case e).c *ℤ (change old rows (arc_of case e).from +ℤ change old rows (arc_of case e).to)

-- the left side of 28
unfoldable pub pipe_residual : List ℤ → (ℕ → ℤ) → List ℤ → ℕ → ℕ → ℕ
pipe_residual case old rows i e = nat_abs (pipe_imbalance case old rows i e)

-- 28: "Pipe: |dt × (a - b) - c × (change of p at from + change at to)| ≤ E?"
unfoldable pub pipe_mass_kept : List ℤ → (ℕ → ℤ) → List ℤ → ℕ → ℕ → Bool
pipe_mass_kept case old rows i e = not (is_pipe case e) || le_z (pos (pipe_residual case old rows i e)) (mass_tolerance case)

-- "1,000,000 × (to - from) + f × a + g × b + h × (from + to)"
unfoldable pub pressure_balance : List ℤ → List ℤ → ℕ → ℤ
pressure_balance case rows e =
    pos 1000000 *ℤ (pressure_in rows (arc_of case e).to -ℤ pressure_in rows (arc_of case e).from)
    +ℤ (pipe_of case e).f *ℤ (arc_row case rows e).a
    +ℤ (pipe_of case e).g *ℤ (arc_row case rows e).b
    +ℤ (pipe_of case e).h *ℤ (pressure_in rows (arc_of case e).from +ℤ pressure_in rows (arc_of case e).to)

-- 29: "Pipe, end pressures: |..| ≤ 1,000,000 × H?"
unfoldable pub pipe_pressures_kept : List ℤ → List ℤ → ℕ → Bool
pipe_pressures_kept case rows e =
    not (is_pipe case e) || le_z (pos (nat_abs (pressure_balance case rows e))) (pos 1000000 *ℤ pressure_tolerance case)
