-- Demand 3: "For every accepted case and plan, every node set and s ≤ t, the ledger answers and balances within its residual, which is at most
-- (nodes + inner pipes) × (t - s) × E."
-- Assumes nothing.
use Rattle.std.specs.Prelude.{◌≡◌, List, ℤ, Ok}
use Rattle.std.proofs.Common.{ap}
use Rattle.plan.specs.declared.totals.Totals.{Totals}
use Rattle.plan.specs.law.Judged.{verdict_told, judge_of}
use Rattle.plan.specs.law.Ledger.{ledger_told, figures_for, ledger_of}
use Rattle.plan.specs.law.Vouched.{RegionOf, Balanced}
use Rattle.plan.proofs.RegionVouched.{region_vouched}

-- For every case list and plan list that are accepted, every set that names only nodes and 0 ≤ s ≤ t ≤ k: the ledger tells its figures and no
-- refusal, |gas at t - gas at s - gas brought in| ≤ residual, and residual ≤ (nodes + inner pipes) × (t - s) × E.
pub demand3 : (case plan : List ℤ) (set s t : ℤ) (totals : Totals) → judge_of case plan ≡ verdict_told (Ok totals) → RegionOf case set s t
    → (ledger_of case plan set s t ≡ ledger_told (Ok (figures_for case plan set s t))) × Balanced case s t (figures_for case plan set s t)
unfolding ledger_of
demand3 case plan set s t totals accepted region =
    let v = region_vouched case plan set s t in
    (ap ledger_told (v.answers totals accepted region), v.balances totals accepted region)
