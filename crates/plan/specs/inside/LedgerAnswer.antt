-- The ledger's answer, put together: times in their order, and the six figures. What the answer vouches for is proofs/LedgerAnswers.antt's.
use Rattle.std.specs.Prelude.{◌≡◌, Bool, true, List, ℕ, ◌≤◌, ℤ}
use Rattle.std.proofs.Common.{◌∙◌}
use Rattle.numbers.specs.law.Signed.{pos_part}
use Rattle.numbers.specs.inside.SignedParts.{size, ints}
use Rattle.numbers.specs.law.Sums.{count}
use Rattle.case.specs.law.Layout.{nodes_of, steps_of}
use Rattle.plan.specs.declared.figures.Figures.{Figures}
use Rattle.plan.specs.declared.region.Gathered.{Gathered}
use Rattle.plan.specs.law.Region.{inner_pipes}
use Rattle.plan.specs.law.RegionFigures.{gas_inside, brought_over, residual_over, figures_of}
use Rattle.plan.specs.inside.RegionLoop.{Gathering}
use Rattle.plan.specs.inside.RegionVouched.{times_of}
use Rattle.plan.specs.law.Ledger.{times_ordered}

pub record InOrder (case : List ℤ) (s t : ℤ) : Type 0 where
  pub order : pos_part s ≤ pos_part t
  pub last : pos_part t ≤ steps_of case

pub in_order : (case : List ℤ) (s t : ℤ) → times_ordered case s t ≡ true → InOrder case s t
in_order case s t h =
    let k = times_of case s t h in
    record { order = omega (ints, k.first, k.order, size s, size t); last = omega (ints, k.last, size t) }

pub figures_are : (case plan : List ℤ) (inside : ℕ → Bool) (s t : ℕ) {a b : ℕ} {x y z : ℤ} {g : Gathered}
    → a ≡ count (nodes_of case) inside → b ≡ inner_pipes case inside → x ≡ gas_inside case plan inside s → y ≡ gas_inside case plan inside t
    → Gathering case plan inside s t g → z ≡ g.brought
    → ◌≡◌ {A = Figures} (record { nodes = a; pipes = b; opening = x; closing = y; brought = z; residual = g.residual }) (figures_of case plan inside s t)
unfolding figures_of brought_over residual_over
figures_are case plan inside s t p q o c g e = rw (p, q, o, c, e ∙ g.brought, g.residual)
