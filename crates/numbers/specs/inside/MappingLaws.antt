-- The two maps between signed and unsigned numbers are inverse to each other, by whether the unsigned number is even.
-- Assumes nothing.
use Rattle.std.specs.Prelude.{◌≡◌, refl, Bool, true, false, cond, ℕ, ◌+◌, ◌*◌, ◌/◌, ◌%◌, ◌<◌, ◌^◌, eqb, ℤ, pos, negsuc}
use Rattle.std.proofs.Common.{ap, arith, eq-eqb, ne_eqb, eqb-true}
use Rattle.std.proofs.lemmas.Bool.{eqb-false}
use Rattle.std.specs.Int.Signed.{mag}
use Rattle.numbers.specs.law.Mapping.{unsigned_of, signed_of}

pub signed_even : (m : ℕ) → m % 2 ≡ 0 → signed_of m ≡ pos (m / 2)
signed_even m h = rw (eq-eqb (m % 2) 0 h)

pub signed_odd : (m : ℕ) → (m % 2 ≡ 0 → ⊥) → signed_of m ≡ negsuc (m / 2)
signed_odd m h = rw (ne_eqb (m % 2) 0 h)

pub signed_unsigned : (z : ℤ) → signed_of (unsigned_of z) ≡ z
signed_unsigned (pos n) = rw (signed_even (2 * n) (omega arith)) (ap pos (omega arith))
signed_unsigned (negsuc n) = rw (signed_odd (2 * n + 1) (omega arith)) (ap negsuc (omega arith))

pub unsigned_signed : (m : ℕ) → unsigned_of (signed_of m) ≡ m
unsigned_signed m = go (eqb (m % 2) 0) refl
  where
    go : (b : Bool) → eqb (m % 2) 0 ≡ b → unsigned_of (cond b (pos (m / 2)) (negsuc (m / 2))) ≡ m
    go true e = let k = eqb-true (m % 2) 0 e in omega arith
    go false e = let k = eqb-false (m % 2) 0 e in omega arith

-- what fits an i64 goes to what fits a u64
pub unsigned_fits : (z : ℤ) → mag z < 2 ^ 63 → unsigned_of z < 2 ^ 64
unsigned_fits (pos n) h = omega arith
unsigned_fits (negsuc n) h = omega arith

-- the least number of 64 bits goes to the largest that is unsigned
pub at_least : unsigned_of (negsuc 9223372036854775807) ≡ 18446744073709551615
at_least = refl
