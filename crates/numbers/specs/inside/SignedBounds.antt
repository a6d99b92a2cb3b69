-- Sizes of signed numbers, |z| ≤ n, by their positive and negative parts.
-- Assumes nothing.
use Rattle.std.specs.Prelude.{◌≡◌, refl, ℕ, suc, ◌+◌, ◌*◌, ◌≤◌, ℤ, pos, negsuc, neg_ℤ, nat_abs, ◌+ℤ◌, ◌*ℤ◌}
use Rattle.std.proofs.Common.{arith}
use Rattle.std.specs.Int.Signed.{mag}
use Rattle.numbers.specs.inside.SignedParts.{added, pos_part_neg, neg_part_neg, size_parts}

pub record Bounded (z : ℤ) (n : ℕ) : Type 0 where
  pub bound : nat_abs z ≤ n

pub abs_add : (x y : ℤ) → nat_abs (x +ℤ y) ≤ nat_abs x + nat_abs y
abs_add x y = omega (arith, added x y, size_parts x, size_parts y, size_parts (x +ℤ y))

pub abs_neg : (x : ℤ) → nat_abs (neg_ℤ x) ≡ nat_abs x
abs_neg x = omega (arith, pos_part_neg x, neg_part_neg x, size_parts x, size_parts (neg_ℤ x))

pub abs_mul : (x y : ℤ) → nat_abs (x *ℤ y) ≡ nat_abs x * nat_abs y
abs_mul (pos a) (pos b) = refl
abs_mul (pos a) (negsuc b) = abs_neg (pos (a * suc b))
abs_mul (negsuc a) (pos b) = abs_neg (pos (suc a * b))
abs_mul (negsuc a) (negsuc b) = refl

pub mag≤ : (z : ℤ) → mag z ≤ nat_abs z
mag≤ (pos n) = omega arith
mag≤ (negsuc n) = omega arith
