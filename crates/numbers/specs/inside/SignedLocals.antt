-- Signed locals. The machine reads a local back from its bits, `to_z w64 (of_z w64 z)`; these laws say what is read, and that it fits.
-- Assumes nothing.
use Rattle.std.specs.Prelude.{◌≡◌, refl, ℕ, ◌+◌, ◌-◌, ◌*◌, ◌<◌, ◌≤◌, ◌^◌, max}
use Rattle.std.specs.Prelude.{T, ltb, ℤ, pos, negsuc, neg_ℤ, nat_abs, ◌+ℤ◌, ◌-ℤ◌, ◌*ℤ◌}
use Rattle.std.proofs.Common.{mul-le-mul, le_trans, arith, ltb→lt, SFits, to_z, of_z, to_z-of_z}
use Rattle.std.specs.Int.Signed.{mag}
use Rattle.std.specs.Int.{w64}
use Rattle.numbers.specs.law.Signed.{pos_part}
use Rattle.numbers.specs.inside.SignedParts.{neg_part}
use Rattle.numbers.specs.inside.SignedBounds.{Bounded, abs_add, abs_neg, abs_mul, mag≤}

-- `fit BOUND tt`: the bound is a numeral once computed
pub fit : {z : ℤ} {n : ℕ} → Bounded z n → T (ltb n (2 ^ 63)) → SFits w64 z
fit {z} {n} h t = record { sfits = omega (arith, mag≤ z, ltb→lt n (2 ^ 63) t) }

-- a value that fits is read back as it is
pub kept : (z : ℤ) → mag z < 2 ^ 63 → to_z w64 (of_z w64 z) ≡ z
kept z h = to_z-of_z {w = w64} {z = z} (record { sfits = h })

-- ---- what a signed local holds. The machine reads a local back from its bits, `to_z w64 (of_z w64 z)`. `Held r z n`: what is read, r, is z, and |z| ≤ n.
-- One term of these follows the code's expression, and answers both that it fits (`held_fits`) and what it is (`val`).
pub record Held (r z : ℤ) (n : ℕ) : Type 0 where
  pub val : r ≡ z
  pub bound : nat_abs z ≤ n

-- a literal or any other number that is not read out of a local
pub plain : {z : ℤ} {n : ℕ} → nat_abs z ≤ n → Held z z n
plain h = record { val = refl; bound = h }

-- a local: the result of an operation, or a parameter, is read back
pub held : {r z : ℤ} {n : ℕ} → Held r z n → T (ltb n (2 ^ 63)) → Held (to_z w64 (of_z w64 r)) z n
held h t = record { val = rw h.val (to_z-of_z (fit (record { bound = h.bound }) t)); bound = h.bound }

-- a parameter, or any other signed value in a local, of which a bound is known
pub param : {z : ℤ} {n : ℕ} → Bounded z n → T (ltb n (2 ^ 63)) → Held (to_z w64 (of_z w64 z)) z n
param h t = held (plain h.bound) t

-- a literal: `literal (pos 0)`
pub literal : (z : ℤ) → Held z z (nat_abs z)
literal z = plain (omega arith)

infixl 6 ◌+ʳ◌ ◌-ʳ◌
infixl 7 ◌*ʳ◌
pub ◌+ʳ◌ : {r z s y : ℤ} {m n : ℕ} → Held r z m → Held s y n → Held (r +ℤ s) (z +ℤ y) (m + n)
◌+ʳ◌ {z = z} {y = y} h k = record { val = cc; bound = omega (arith, abs_add z y) }

pub ◌-ʳ◌ : {r z s y : ℤ} {m n : ℕ} → Held r z m → Held s y n → Held (r -ℤ s) (z -ℤ y) (m + n)
◌-ʳ◌ {z = z} {y = y} h k = record { val = cc; bound = omega (arith, abs_add z (neg_ℤ y), abs_neg y) }

pub ◌*ʳ◌ : {r z s y : ℤ} {m n : ℕ} → Held r z m → Held s y n → Held (r *ℤ s) (z *ℤ y) (m * n)
◌*ʳ◌ {z = z} {y = y} h k = record { val = cc; bound = omega (arith, abs_mul z y, mul-le-mul h.bound k.bound) }

pub held_fits : {r z : ℤ} {n : ℕ} → Held r z n → T (ltb n (2 ^ 63)) → SFits w64 r
held_fits h t = rw h.val (fit (record { bound = h.bound }) t)

-- ---- the range of the type, by the parts: linear, with no case
pub record Range (z : ℤ) : Type 0 where
  pub loosen : pos_part z < 9223372036854775808
  pub down : neg_part z ≤ 9223372036854775808

pub range : {z : ℤ} → SFits w64 z → Range z
range {z = pos n} h = let k = h.sfits in omega arith
range {z = negsuc n} h = let k = h.sfits in omega arith

-- `ranged z (omega (ints, added x y))`
pub ranged : (z : ℤ) → Range z → SFits w64 z
ranged (pos n) h = record { sfits = omega arith }
ranged (negsuc n) h = record { sfits = omega arith }

-- `mag z` is z, or -(z + 1) if z is negative
pub record Mag (z : ℤ) : Type 0 where
  pub both : mag z ≡ pos_part z + (neg_part z - 1)
  pub most : nat_abs z ≡ max (pos_part z) (neg_part z)
  pub all : nat_abs z ≡ pos_part z + neg_part z

pub mags : (z : ℤ) → Mag z
mags (pos n) = omega arith
mags (negsuc n) = omega arith

-- ---- `Held` with bounds that are not numerals, as in a loop's invariant
-- `sum` of a loop is bits: the invariant says `Held (to_z w64 sum) SPEC (i * 1000000)`
pub loosen : {r z : ℤ} {m : ℕ} (n : ℕ) → m ≤ n → Held r z m → Held r z n
loosen n k h = record { val = h.val; bound = le_trans h.bound k }
