-- Demand 3: "For every accepted case and plan, every node set and s ≤ t, the ledger answers and balances within its residual, which is at most
-- (nodes + inner pipes) × (t - s) × E." It is part of the ledger's promise.
-- Assumes nothing.
use Rattle.std.specs.Prelude.{◌≡◌, true, List, ℕ, ◌+◌, ◌<◌, ℤ, pos, nat_abs, ◌-ℤ◌, ◌*ℤ◌, ◌≤ℤ◌, Ok}
use Rattle.numbers.specs.law.Sets.{member_of}
use Rattle.case.specs.law.Layout.{nodes_of, steps_of, mass_tolerance}
use Rattle.plan.specs.declared.figures.Figures.{Figures}
use Rattle.plan.specs.declared.totals.Totals.{Totals}
use Rattle.plan.specs.law.Judged.{verdict_told, judge_of}
use Rattle.plan.specs.law.Ledger.{figures_for, Ledger}

-- a set that names only nodes of the case ("A negative number is no set"), and times 0 ≤ s ≤ t ≤ k
pub record RegionOf (case : List ℤ) (set s t : ℤ) : Type 0 where
  pub a_set : pos 0 ≤ℤ set
  pub only_nodes : (v : ℕ) → member_of set v ≡ true → v < nodes_of case
  pub from_0 : pos 0 ≤ℤ s
  pub in_order : s ≤ℤ t
  pub to_k : t ≤ℤ pos (steps_of case)

-- |gas at t - gas at s - gas brought in| ≤ residual ≤ (nodes + inner pipes) × (t - s) × E
pub record Balanced (case : List ℤ) (s t : ℤ) (f : Figures) : Type 0 where
  pub balance : pos (nat_abs (f.closing -ℤ f.opening -ℤ f.brought)) ≤ℤ pos f.residual
  pub bound : pos f.residual ≤ℤ (pos (f.nodes + f.pipes) *ℤ (t -ℤ s) *ℤ mass_tolerance case)

-- what an answer `r` of the ledger vouches for: of an accepted plan and a region of it, that it is the ledger's figures and that they balance
pub record Vouched (case plan : List ℤ) (set s t : ℤ) (r : Ledger) : Type 0 where
  pub answers : (totals : Totals) → judge_of case plan ≡ verdict_told (Ok totals) → RegionOf case set s t
      → r ≡ Ok (figures_for case plan set s t)
  pub balances : (totals : Totals) → judge_of case plan ≡ verdict_told (Ok totals) → RegionOf case set s t
      → Balanced case s t (figures_for case plan set s t)
