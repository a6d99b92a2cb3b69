-- Times grow by at most a day a step, once their questions have let them pass.
-- Assumes nothing.
use Rattle.std.specs.Prelude.{Ok}
use Rattle.case.proofs.Common.{◌≡◌, first_no}
use mathlib.Core.List.{List}
use Prim.Native.Nat.{ℕ, ◌+◌}
use native.Mathlib.Numerals.{add-one}
use lib.IntN.{ℤ, pos, ◌+ℤ◌}
use Rattle.numbers.specs.inside.SignedParts.{ints, added, size}
use Rattle.numbers.specs.inside.SignedBounds.{Bounded}
use Rattle.case.specs.law.Layout.{time_at}
use Rattle.case.specs.law.Records.{time_of, time_before}
use Rattle.case.specs.inside.FieldLaws.{field_yes}
use Rattle.case.specs.law.TimeFields.{time_field}

-- times grow by at most a day a step
pub time_grows : (case : List ℤ) (i : ℕ) {n : ℕ} → Bounded (time_before case i) n → first_no (time_field case i) ≡ Ok tt
    → Bounded (time_before case (i + 1)) (n + 86400)
unfolding time_field
time_grows case i b e =
    let r = field_yes case (time_at i) (time_before case i +ℤ pos 1) (time_before case i +ℤ pos 86400) e in
    let t = time_before case i in
    rw (add-one i) (record { bound = omega (ints, r.least, r.most, added t (pos 1), added t (pos 86400), size t, size (time_of case i), b.bound) })
