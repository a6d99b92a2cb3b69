-- Times of an accepted case that follow one another lie at most a day apart, so their difference does not overflow.
use Rattle.plan.proofs.Common.{◌≡◌, ap₂, ℤ, ◌-ℤ◌, Held, held, held_fits}
use mathlib.Core.List.{List}
use Rattle.case.specs.law.Records.{time_of, time_before}
use Rattle.case.specs.law.Layout.{steps_of}
use Prim.Native.Nat.{ℕ, ◌<◌}
use Rattle.plan.specs.law.Pipes.{duration}
use Rattle.plan.specs.inside.CaseSizes.{duration_sized}
use Rattle.plan.specs.inside.Preconditions.{AcceptedCase}
use Rattle.plan.proofs.SignedReads.{as_told}
use Rattle.plan.proofs.accepted.Accepted.duration.Goals as goal

passed : {case : List ℤ} {i : ℕ} {x y : ℤ} → AcceptedCase case → i < steps_of case → x ≡ time_of case i → y ≡ time_before case i
    → Held (x -ℤ y) (duration case i) 86400
unfolding duration
passed {i = i} a p t b = record { val = ap₂ ◌-ℤ◌ t b; bound = (duration_sized a i p).bound }

pub overflow_sub-result : goal.overflow_sub-result
overflow_sub-result c =
    held_fits (passed c.args.self.now.yes c.requires (as_told c.time.type_inv c.time.ensures) (as_told c.time_before.type_inv c.time_before.ensures)) tt

pub returns : goal.returns
returns c =
    (held (passed c.args.self.now.yes c.requires (as_told c.time.type_inv c.time.ensures) (as_told c.time_before.type_inv c.time_before.ensures)) tt).val
