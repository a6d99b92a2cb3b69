-- A number whose first groups have been read: what follows is added at the scale that they leave.
-- Assumes nothing.
use Rattle.std.specs.Prelude.{◌≡◌, refl, ℕ, ◌+◌, ◌*◌, Ok, Err}
use Rattle.std.proofs.Common.{ap, ap₂, arith}
use Rattle.numbers.specs.law.Reading.{in_front, NumberRead, whole, wrong}

-- the first `used` bytes make up `value`, and the groups of what follows stand at `scale`
abbrev pub shifted : ℕ → ℕ → ℕ → NumberRead → NumberRead
shifted value scale used (Ok one) = whole (value + scale * one.value) (used + one.used)
shifted value scale used (Err bad) = wrong bad.number (used + bad.asked)

pub shifted_first : (group : ℕ) (r : NumberRead) → in_front group r ≡ shifted group 128 1 r
shifted_first group (Ok one) = refl
shifted_first group (Err bad) = refl

pub shifted_more : (value scale used group : ℕ) (r : NumberRead)
    → shifted value scale used (in_front group r) ≡ shifted (value + scale * group) (scale * 128) (used + 1) r
shifted_more value scale used group (Ok one) = ap₂ whole (omega arith) (omega arith)
shifted_more value scale used group (Err bad) = ap (wrong bad.number) (omega arith)
