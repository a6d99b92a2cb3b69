-- "Two empty records settle to 0." By computation: 60 asks only whether the agreed figure is in its range.
-- Assumes nothing.
use Rattle.std.specs.Prelude.{true, false, [], ◌∷◌, ◌≡◌, ℤ, pos}
use Rattle.numbers.specs.law.Told.{gives, refuses}
use Rattle.settlement.specs.law.RecordRules.{in_grams}
use Rattle.settlement.specs.law.Settling.{settle_of}
use Rattle.settlement.specs.inside.Computed.{law}

pub empty_settle : (agreed : ℤ) → in_grams agreed ≡ true → settle_of [] [] agreed ≡ gives (pos 0 ∷ pos 0 ∷ pos 0 ∷ pos 0 ∷ pos 0 ∷ [])
unfolding law
empty_settle agreed e = rw e

pub empty_refused : (agreed : ℤ) → in_grams agreed ≡ false → settle_of [] [] agreed ≡ refuses 60 0 0
unfolding law
empty_refused agreed e = rw e
