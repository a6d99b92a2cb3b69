-- The ledger's answer is what the law says of it, and vouches for its region.
use Rattle.std.specs.Prelude.{◌≡◌, List, ℤ}
use Rattle.std.proofs.Common.{sym, ap, subst}
use Rattle.plan.proofs.RegionVouched.{region_vouched}
use Rattle.plan.specs.law.Vouched.{Vouched}
use Rattle.plan.specs.law.Ledger.{ledger_told, ledger_is, ledger_of, Ledger}

pub answers : (case plan : List ℤ) (set s t : ℤ) {r : Ledger} → r ≡ ledger_is case plan set s t
    → (ledger_told r ≡ ledger_of case plan set s t) × Vouched case plan set s t r
unfolding ledger_of
answers case plan set s t e = (ap ledger_told e, subst (Vouched case plan set s t) (sym e) (region_vouched case plan set s t))
