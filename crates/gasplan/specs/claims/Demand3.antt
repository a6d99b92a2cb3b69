-- Demand 3 said of the export: what `gasplan_ledger` answers, and what it puts into `out`.
-- Assumes nothing.
use Rattle.std.specs.Prelude.{◌≡◌, List, ◌≤◌, ℤ, pos, nat_abs, ◌+ℤ◌, ◌-ℤ◌, ◌*ℤ◌, length, ◌≤ℤ◌, Ok}
use Rattle.std.proofs.Common.{le-leb}
use Rattle.case.specs.law.Layout.{number_at, mass_tolerance}
use Rattle.plan.specs.declared.totals.Totals.{Totals}
use Rattle.plan.specs.law.Judged.{verdict_told, judge_of}
use Rattle.plan.specs.law.Ledger.{ledger_of}
use Rattle.plan.specs.law.Vouched.{RegionOf}
use Rattle.plan.proofs.claims.Demand3.{demand3}
use Rattle.gasplan.specs.law.Out.{code_of, out_of}

-- `out` after the call: its places are nodes, inner pipes, gas at s, gas at t, gas brought in and residual
pub record OutBalanced (case : List ℤ) (s t : ℤ) (out : List ℤ) : Type 0 where
  pub balance : pos (nat_abs (number_at out 3 -ℤ number_at out 2 -ℤ number_at out 4)) ≤ℤ number_at out 5
  pub bound : number_at out 5 ≤ℤ ((number_at out 0 +ℤ number_at out 1) *ℤ (t -ℤ s) *ℤ mass_tolerance case)

-- Where the verdict on case and plan is accepted, the set names only nodes, 0 ≤ s ≤ t ≤ k and `out` has 6 places or more, `gasplan_ledger` answers 0 and
-- what it leaves in `out` balances.
pub ledger_balances : (case plan out : List ℤ) (set s t : ℤ) (totals : Totals) → judge_of case plan ≡ verdict_told (Ok totals) → RegionOf case set s t
    → 6 ≤ length out
    → (code_of out (ledger_of case plan set s t) ≡ pos 0) × OutBalanced case s t (out_of out (ledger_of case plan set s t))
ledger_balances case plan out set s t totals accepted region room =
    let d = demand3 case plan set s t totals accepted region in
    let e = le-leb 6 (length out) room in
    (rw (d.0, e), rw (d.0, e) (record { balance = d.1.balance; bound = d.1.bound }))
