-- Numbers that the other side's 64 bits with a sign have room for.
-- Assumes nothing.
use Rattle.std.specs.Prelude.{List, [], ◌∷◌, ℕ, ◌<◌, ◌^◌, ℤ, pos, Result, Ok, Err}
use Rattle.numbers.specs.declared.answer.No.{No}
use Rattle.plan.specs.declared.totals.Totals.{Totals}
use Rattle.plan.specs.declared.figures.Figures.{Figures}
use Rattle.settlement.specs.declared.figures.Figures as settled

-- what was found fits, or the refusal's three numbers
abbrev pub Fits : {T : Type 0} → (T → Type 0) → Result T No → Type 0
Fits fit (Ok v) = fit v
Fits fit (Err n) = (n.number < 2 ^ 63) × (n.step < 2 ^ 63) × (n.place < 2 ^ 63)

-- a yes alone
abbrev pub nothing_told : Unit {0} → List ℤ
nothing_told u = []

abbrev pub nothing_fits : Unit {0} → Type 0
nothing_fits u = Unit {0}

abbrev pub count_told : ℕ → List ℤ
count_told n = pos n ∷ []

abbrev pub count_fits : ℕ → Type 0
count_fits n = n < 2 ^ 63

abbrev pub totals_fit : Totals → Type 0
totals_fit t = (t.switching < 2 ^ 63) × (t.residual < 2 ^ 63)

abbrev pub figures_fit : Figures → Type 0
figures_fit f = (f.nodes < 2 ^ 63) × (f.pipes < 2 ^ 63) × (f.residual < 2 ^ 63)

abbrev pub settlement_fit : settled.Figures → Type 0
settlement_fit f = (f.agreed < 2 ^ 63) × (f.cut < 2 ^ 63) × (f.sender < 2 ^ 63) × (f.receiver < 2 ^ 63)
